use Rattle.std.proofs.Common.{arith, map, refl}
use Rattle.std.specs.Prelude.{string_bytes}
use Rattle.std.proofs.lemmas.List.{length-map}
use Rattle.ld_words.proofs.PlacesLemmas.{no_kind, none_more, one_counted}
use Rattle.std.proofs.lemmas.Option.{slice_get_within}
use Rattle.ld_words.proofs.reader.count_values.Goals as goal

pub returns-in_default : goal.returns-in_default
returns-in_default c =
    let long = length-map c.args.words.now string_bytes in
    record {
      within = c.loop-count.invariant.0;
      inside = let inside = c.loop-count.invariant.1 in omega arith;
      are = c.loop-count.invariant.2;
      more = none_more _ _ _ _ _ c.loop-count-test.true refl c.in_default.ensures;
    }

pub returns : goal.returns
returns c =
    let long = length-map c.args.words.now string_bytes in
    record {
      within = c.loop-count.invariant.0;
      inside = let inside = c.loop-count.invariant.1 in omega arith;
      are = c.loop-count.invariant.2;
      more = no_kind _ _ _ c.loop-count-test.false;
    }

pub loop-count-preserved : goal.loop-count-preserved
loop-count-preserved c =
    let long = length-map c.args.words.now string_bytes in
    let inside = slice_get_within (map string_bytes c.args.words.now) c.loop-count.count _ c.in-Some.ensures.0 in
    let below = c.loop-count-test.true in (
      omega arith,
      omega arith,
      one_counted _ _ _ _ _ _ c.loop-count-test.true refl c.in-Some.ensures c.loop-count.invariant.2,
    )
