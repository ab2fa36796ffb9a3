use Rattle.std.proofs.Common.{◌≡◌, ◌∙◌, ap, map, string_bytes, subst, sym}
use Rattle.clap.specs.Simple.{is_simple, matches_of}
use Rattle.clap.specs.Takes.{takes}
use Rattle.clap.specs.Values.{kind_of}
use Rattle.clap.specs.declared.error.kind.ErrorKind.TheVariants.{OutOfMemory}
use Rattle.clap.proofs.TakesLemmas.{passed_up}
use Rattle.ld_words.specs.Parsed.{taken_of_rows}
use Rattle.ld_words.specs.Taken.{IsTakenOf}
use Rattle.ld_words.proofs.AcceptedLemmas.{rows_taken, takes_words}
use Rattle.ld_words.proofs.FormSyntaxLemmas.{simple}
use Rattle.ld_words.proofs.ParsedLemmas.{taken_is}
use Rattle.ld_words.proofs.taken.take_values.Goals as goal

pub returns-in_err-matches-clause-memory : goal.returns-in_err-matches-clause-memory
returns-in_err-matches-clause-memory c places given are =
    let words = map string_bytes c.args.words.now in
    let memory = c.in_err-matches.ensures.passes (ap (λ app. takes app words) c.in_ok-command_of_form.ensures ∙ takes_words c.args.form words places given are) in
    passed_up c.from_residual-in_err-matches.result _ (λ e. kind_of e ≡ OutOfMemory) c.from_residual-in_err-matches.ensures.1 memory

pub returns-clause-taken : goal.returns-clause-taken
returns-clause-taken c places given are =
    let form = c.args.form in
    let words = map string_bytes c.args.words.now in
    let rows = (c.in_ok-matches.ensures.matches (ap is_simple c.in_ok-command_of_form.ensures ∙ simple form)).0 ∙ ap (λ app. matches_of app words) c.in_ok-command_of_form.ensures in
    subst (λ rs. IsTakenOf places given (taken_of_rows rs)) (sym rows) (taken_is form words places given are _ (rows_taken form words places given are))
