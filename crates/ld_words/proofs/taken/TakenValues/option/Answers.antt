use Rattle.std.proofs.Common.{◌≡◌, ◌∙◌, ap, false, refl, sym, true}
use Rattle.clap.specs.Matches.{found_of}
use Rattle.clap.specs.Walk.{first_of, rows_of}
use Rattle.clap.proofs.WalkLemmas.{first_value-rows}
use Rattle.ld_words.specs.Options.{value_of}
use Rattle.ld_words.specs.Parsed.{flag_value, text_of}
use Rattle.ld_words.specs.Syntax.{bare_name}
use Rattle.ld_words.specs.Taken.{Taken, is_flag}
use Rattle.ld_words.proofs.ParsedLemmas.{value_read}
use Rattle.ld_words.proofs.taken.TakenValues.option.Goals as goal

pub returns-then-is_flag : goal.returns-then-is_flag
returns-then-is_flag c =
    let name = c.args.name in
    let found = found_of c.self.inside.matches in
    let text = c.get_str-text.ensures ∙ first_value-rows found _ ∙ ap (λ id. first_of id (rows_of found)) c.bare_name.ensures in
    let flag : is_flag name ≡ true = sym c.if-is_flag.ensures in
    let read : text_of (rows_of found) name ≡ flag_value (first_of (bare_name name) (rows_of found)) = rw flag refl in
    c.flag_value.ensures ∙ ap flag_value text ∙ sym read ∙ sym (value_read (rows_of found) name) ∙ ap (λ (t : Taken). value_of name t.given) c.self.view_is

pub returns-else-is_flag : goal.returns-else-is_flag
returns-else-is_flag c =
    let name = c.args.name in
    let found = found_of c.self.inside.matches in
    let text = c.get_str-text.ensures ∙ first_value-rows found _ ∙ ap (λ id. first_of id (rows_of found)) c.bare_name.ensures in
    let flag : is_flag name ≡ false = sym c.if-is_flag.ensures in
    let read : text_of (rows_of found) name ≡ first_of (bare_name name) (rows_of found) = rw flag refl in
    text ∙ sym read ∙ sym (value_read (rows_of found) name) ∙ ap (λ (t : Taken). value_of name t.given) c.self.view_is
