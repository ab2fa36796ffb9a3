use Rattle.std.proofs.Common.{◌∙◌, ap, sym}
use Rattle.std.specs.Prelude.{map, string_bytes}
use Rattle.std.specs.List.{list_all}
use Rattle.std.proofs.lemmas.List.{length-map}
use Rattle.ld_words.specs.Forms.{has_one_of, needs_of}
use Rattle.ld_words.specs.OptionWords.{given_by}
use Rattle.ld_words.proofs.ReaderLemmas.{accepted_here, handed_on, long_here, refused_end_here, refused_options_here}
use Rattle.ld_words.proofs.reader.read_form.Goals as goal

pub options_behind-requires : goal.options_behind-requires
options_behind-requires c = long_here c.args.form _ _ _ _ (length-map c.in_ok-places.places.now string_bytes) (length-map c.args.words.now string_bytes) c.in_ok-places.ensures

pub returns-in_err-given : goal.returns-in_err-given
returns-in_err-given c =
    handed_on _ _ _ _ c.from_residual-in_err-given.ensures
    (λ memory. refused_options_here c.args.form _ _ _ _ (length-map c.in_ok-places.places.now string_bytes) c.in_ok-places.ensures (c.in_err-given.ensures memory))

pub returns-then-not-has_needed : goal.returns-then-not-has_needed
returns-then-not-has_needed c _ =
    refused_end_here c.args.form _ _ _ _ _ (length-map c.in_ok-places.places.now string_bytes) (length-map c.args.words.now string_bytes) c.in_ok-places.ensures c.in_ok-given.ensures
    (ap (λ gs. list_all (has_one_of (given_by gs)) (needs_of c.args.form)) (sym c.deref.ensures.value) ∙ sym c.has_needed.ensures ∙ c.if-not-has_needed.true)

pub returns : goal.returns
returns c = record {
  places = map string_bytes c.in_ok-places.places.now;
  given = given_by c.in_ok-given.given.items;
  are = accepted_here c.args.form _ _ _ _ (length-map c.in_ok-places.places.now string_bytes) c.in_ok-places.ensures c.in_ok-given.ensures
      (ap (λ gs. list_all (has_one_of (given_by gs)) (needs_of c.args.form)) (sym c.deref.ensures.value) ∙ sym c.has_needed.ensures ∙ c.if-not-has_needed.false);
}
