use Rattle.std.proofs.Common.{◌≡◌, [], rules}
use Rattle.ld_set.specs.Words.{numbers_of}
use Rattle.ld_seats.proofs.OpeningLemmas.{numbers_below, numbers_rise, opening_is}
use Rattle.ld_seats.proofs.seating.Seating.new.Goals as goal

pub returns : goal.returns
returns c = record {
  opens =
      let words = c.owned.inside.words.items in
      let is : c.args.owned.numbers ≡ numbers_of words c.args.slots = search rules in
      let idle : c.in_ok-idle.idle.numbers ≡ [] = search rules in
      rw idle (opening_is c.args.slots c.args.owned.numbers c.in_ok-seats.seats (numbers_rise words c.args.slots c.args.owned.numbers is)
      (numbers_below words c.args.slots c.args.owned.numbers is));
}
