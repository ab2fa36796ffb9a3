-- How a state of users with slots changes where items end.
use Rattle.std.specs.Prelude.{◌≡◌, ℕ, Bool, if◌then◌else◌}
use Rattle.ld_base.specs.declared.act.Act.{Act}
use Rattle.ld_iters.specs.SlotsShows.{IsLeft, Shows, SlotsView}
use Rattle.ld_iters.specs.Work.{IsPassed}
use Rattle.ld_machine.specs.Scenario.{Scenario}
use Rattle.ld_machine.specs.ShareEffect.{share_after}
use Rattle.ld_machine.specs.Told.{MayBeTold}
use Rattle.ld_set.specs.SetView.{without_number}

-- the slot's next item is passed over; where that was its last one, the slot doesn't go on
pub record HasPassed (slot : ℕ) (old new : SlotsView) : Type 0 where
  pub last : Bool
  pub work : IsPassed slot old.work new.work last
  pub going : new ≡ record old {
    work = new.work;
    going = if last then without_number slot old.going else old.going;
  }

-- whichever scenario the old state shows: where that may be told of the act, only what is left to start changes, to
-- what the act, by any thread at any reading, leaves of it
abbrev pub EndsItem : SlotsView → SlotsView → Act → Type 0
EndsItem old new act =
    (s : Scenario) (thread reading : ℕ) → Shows old s → MayBeTold s act →
    (new ≡ record old { work = new.work; going = new.going })
    × IsLeft new (record s { share = share_after s.part thread reading act s.share })
