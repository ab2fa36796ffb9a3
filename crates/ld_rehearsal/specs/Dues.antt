-- The iterations under way: when they end, and the table of them by user.
use Rattle.std.specs.Prelude.{◌≡◌, ◌<◌, ◌^◌, ℕ, zero, suc, List, Option, None, Some, filter_map, length, map, min, nat_le, option_map, slice_get, unwrap_or}
use Rattle.ld_base.specs.Stint.{StintView}
use Rattle.ld_base.specs.declared.entry.Entry.{Entry}
use Rattle.ld_machine.specs.Moment.{moment_after}
use Rattle.ld_machine.specs.Playing.{Play, play_of}
use Rattle.ld_rehearsal.specs.declared.due.Due.{Due}

-- an iteration of the length `long` that a user plays: it ends at the least of its start's reading plus that
-- length and its `until`, and its script finishes where the whole length fits
abbrev pub due_of : ℕ → Play → Due
due_of long play =
    record {
      scenario = play.scenario;
      item = play.item;
      until = play.until;
      end = min (moment_after play.start long) play.until;
      finished = nat_le (moment_after play.start long) play.until;
    }

-- what a user plays that begins this stint at a reading
abbrev pub play_at : ℕ → StintView → Play
play_at t stint = record { thread = 0; start = t; scenario = stint.scenario; item = stint.item; until = stint.until }

-- what a user plays behind a history, where iterations have this length
abbrev pub due_in : ℕ → List Entry → ℕ → Option Due
due_in long history user = option_map (due_of long) (play_of user history)

-- what the table has of a user, where users are numbered from 1
abbrev pub due_at : List (Option Due) → ℕ → Option Due
due_at users zero = None
due_at users (suc index) = unwrap_or (slice_get users index) None

-- when what a user plays ends, if it plays anything
abbrev pub end_of : Option Due → Option ℕ
end_of due = option_map (λ (d : Due). d.end) due

-- the ends of all iterations in the table
abbrev pub ends_of : List (Option Due) → List ℕ
ends_of users = filter_map end_of users

-- what the user plays, if anything, ends later than the moment
abbrev pub EndsLater : List (Option Due) → ℕ → ℕ → Type 0
EndsLater users moment user = (due : Due) → due_at users user ≡ Some due → moment < due.end

-- beside what each user plays stands when it ends, and the count of the users is a u32
pub record IsKept (users : List (Option Due)) (ends : List (Option ℕ)) : Type 0 where
  pub small : length users < 2 ^ 32
  pub ended : ends ≡ map end_of users

-- the table of this many users has what each user plays behind the history
pub record ShowsDues (long limit : ℕ) (history : List Entry) (users : List (Option Due)) : Type 0 where
  pub count : length users ≡ limit
  pub each : (user : ℕ) → due_at users user ≡ due_in long history user
