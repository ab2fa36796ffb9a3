-- How a seating changes.
use Rattle.std.specs.Prelude.{◌+◌, ◌-◌, ℕ, slice_set}
use Rattle.ld_seats.specs.Seating.{SeatingView}
use Rattle.ld_set.specs.SetView.{with_number, without_number}

-- a user comes on the slot, and is idle
abbrev pub seated : ℕ → ℕ → SeatingView → SeatingView
seated user slot seating =
    record seating {
      vacant = without_number slot seating.vacant;
      idle = with_number slot seating.idle;
      seats = record {
        slot_of = slice_set seating.seats.slot_of user slot;
        user_of = slice_set seating.seats.user_of slot user;
      };
      held = seating.held + 1;
    }

-- the slot's user is busy, or is idle
abbrev pub busied : ℕ → SeatingView → SeatingView
busied slot seating = record seating { idle = without_number slot seating.idle }

abbrev pub rested : ℕ → SeatingView → SeatingView
rested slot seating = record seating { idle = with_number slot seating.idle }

-- the slot's user goes
abbrev pub vacated : ℕ → SeatingView → SeatingView
vacated slot seating =
    record seating {
      vacant = with_number slot seating.vacant;
      idle = without_number slot seating.idle;
      held = seating.held - 1;
    }
