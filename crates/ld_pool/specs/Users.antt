-- The users of a pool: what each of them is and plays, and how many are of one kind.
use Rattle.std.specs.Prelude.{◌-◌, ◌==◌, ◌&&◌, ℕ, zero, suc, Bool, true, false, List, Option, Some, None, count_by, filter, filter_map, length, slice_get, slice_set}
use Rattle.std.specs.List.{range_with_len}
use Rattle.std.specs.Option.{option_and_then, option_map_or}
use Rattle.ld_base.specs.Stint.{StintView}
use Rattle.ld_pool.specs.declared.busy.Busy as playing
use Rattle.ld_pool.specs.declared.user.User.{User}
use Rattle.ld_pool.specs.declared.user.User.TheVariants.{Free, Idle, Busy}

-- no scenario holds the user
abbrev pub is_free : User → Bool
is_free Free = true
is_free (Idle _) = false
is_free (Busy _) = false

-- a scenario holds the user, which plays nothing
abbrev pub is_idle : User → Bool
is_idle Free = false
is_idle (Idle _) = true
is_idle (Busy _) = false

-- a scenario holds the user, which plays an item
abbrev pub is_busy : User → Bool
is_busy Free = false
is_busy (Idle _) = false
is_busy (Busy _) = true

-- the scenario that holds the user
abbrev pub holder_of : User → Option ℕ
holder_of Free = None
holder_of (Idle scenario) = Some scenario
holder_of (Busy busy) = Some busy.scenario

-- what the user plays
abbrev pub busy_of : User → Option playing.Busy
busy_of Free = None
busy_of (Idle _) = None
busy_of (Busy busy) = Some busy

-- until when the user's iteration may last
abbrev pub until_of : User → Option ℕ
until_of Free = None
until_of (Idle _) = None
until_of (Busy busy) = Some busy.until

-- the user that plays a stint, which the thread started
abbrev pub busy_with : ℕ → StintView → User
busy_with thread stint = Busy (record { thread = thread; scenario = stint.scenario; item = stint.item; until = stint.until })

-- it is the play of this stint, and the thread started it
abbrev pub plays : playing.Busy → ℕ → StintView → Bool
plays busy thread stint =
    (busy.thread == thread) && (busy.scenario == stint.scenario) && (busy.item == stint.item) && (busy.until == stint.until)

-- the user of a number, where users are numbered from 1; None where no user of that number was made
abbrev pub user_at : List User → ℕ → Option User
user_at users zero = None
user_at users (suc index) = slice_get users index

-- the users, where the one of this number is changed
abbrev pub with_user : List User → ℕ → User → List User
with_user users number changed = slice_set users (number - 1) changed

-- whether the user of a number is free; it isn't where no user of that number was made
abbrev pub free_at : List User → ℕ → Bool
free_at users number = option_map_or is_free (user_at users number) false

-- the numbers of the free users, in order
abbrev pub free_numbers : List User → List ℕ
free_numbers users = filter (free_at users) (range_with_len 1 (length users))

-- how many users are free, idle or busy
abbrev pub free_count : List User → ℕ
free_count users = count_by is_free users

abbrev pub idle_count : List User → ℕ
idle_count users = count_by is_idle users

abbrev pub busy_count : List User → ℕ
busy_count users = count_by is_busy users

-- until when the iteration of the user of a number may last
abbrev pub until_at : List User → ℕ → Option ℕ
until_at users number = option_and_then until_of (user_at users number)

-- until when the iterations of the busy users may last
abbrev pub untils_of : List User → List ℕ
untils_of users = filter_map until_of users
