-- Settled histories: everything is closed and given back, and every owned item ended once.
use Rattle.std.specs.Prelude.{ℕ, Bool, true, false, not, ◌&&◌, ◌||◌, ◌==◌, List, [], ◌∷◌, Option, None, Some, find, filter_map, length, count_by, IsTrue, if◌then◌else◌}
use Rattle.std.specs.List.{list_all, list_any, enumerate_from}
use Rattle.std.specs.Option.{option_map_or}
use Rattle.ld_base.specs.declared.act.Act.{Act}
use Rattle.ld_base.specs.declared.act.Act.TheVariants.{Start, Drop, Late, Return}
use Rattle.ld_base.specs.declared.entry.Entry.{Entry}
use Rattle.ld_machine.specs.Plan.{Executor, SharedIterations, PerVuIterations, ArrivalRate, Part, Plan, owned_items}
use Rattle.ld_machine.specs.State.{Share, State, all_closed}
use Rattle.ld_machine.specs.Scenario.{Scenario, is_open, has_open_item, least_open_item}
use Rattle.ld_machine.specs.Moves.{scenarios}
use Rattle.ld_machine.specs.Effect.{state_after}

-- the item of this scenario that an act starts, drops or counts late
abbrev pub item_of : ℕ → Act → Option ℕ
item_of n (Start n' user item until) = if n' == n then Some item else None
item_of n (Drop n' item) = if n' == n then Some item else None
item_of n (Late n' item) = if n' == n then Some item else None
item_of n _ = None

-- the items of this scenario that entries started, dropped or counted late, in order
abbrev pub items_in : ℕ → List Entry → List ℕ
items_in n history = filter_map (λ (entry : Entry). item_of n entry.act) history

-- no number of the list comes again in it
abbrev pub is_distinct : List ℕ → Bool
is_distinct [] = true
is_distinct (x ∷ rest) = not (list_any (λ k. k == x) rest) && is_distinct rest

-- the executor has items
abbrev pub has_items : Executor → Bool
has_items (SharedIterations _ _) = true
has_items (PerVuIterations _ _) = true
has_items (ArrivalRate _ _ _) = true
has_items _ = false

-- the second list has each item of the first once, and no others
abbrev pub has_each_once : List ℕ → List ℕ → Bool
has_each_once owned items =
    list_all (λ k. count_by (λ item. item == k) items == 1) owned && list_all (λ item. list_any (λ k. k == item) owned) items

-- each owned item of a scenario with items was started, dropped or counted late once, and no other was
abbrev pub items_ended : List Entry → ℕ → Part → Bool
items_ended history n part = not (has_items part.executor) || has_each_once (owned_items part.executor) (items_in n history)

-- an act is a Start or a Return of the user
abbrev pub is_turn_of : ℕ → Act → Bool
is_turn_of user (Start _ user' _ _) = user' == user
is_turn_of user (Return _ user' _ _ _) = user' == user
is_turn_of user _ = false

-- an act is the Return of this iteration
abbrev pub is_its_return : ℕ → ℕ → ℕ → Act → Bool
is_its_return n user item (Return n' user' item' _ _) = (n' == n) && (user' == user) && (item' == item)
is_its_return n user item _ = false

-- where an act is a Start, the next Start or Return of its user in these entries is its Return
abbrev pub is_returned : Act → List Entry → Bool
is_returned (Start n user item _) rest =
    option_map_or (λ (entry : Entry). is_its_return n user item entry.act) (find (λ (entry : Entry). is_turn_of user entry.act) rest) false
is_returned _ rest = true

-- each Start has one Return
abbrev pub all_returned : List Entry → Bool
all_returned [] = true
all_returned (entry ∷ rest) = is_returned entry.act rest && all_returned rest

-- no user is held
abbrev pub nobody_held : State → Bool
nobody_held state = list_all (λ (share : Share). length share.held == 0) state.shares

-- a history is settled
abbrev pub is_settled : Plan → List Entry → Bool
is_settled plan history =
    all_closed (state_after plan history)
    && list_all (λ (n, part). items_ended history n part) (enumerate_from 0 plan.parts)
    && all_returned history
    && nobody_held (state_after plan history)

abbrev pub IsSettled : Plan → List Entry → Type 0
IsSettled plan history = IsTrue (is_settled plan history)

-- ---- what isn't settled

-- a scenario isn't closed, or has an open item
abbrev pub is_unsettled : Scenario → Bool
is_unsettled s = is_open s || has_open_item s

-- the least unsettled scenario, with its least open item, or with the whole's number of items where
-- none is open
abbrev pub unsettled : Plan → State → Option (ℕ × ℕ)
unsettled plan state =
    option_map_or
    (λ (n, s). Some (n, option_map_or (λ item. item) (least_open_item s) s.part.whole_items))
    (find (λ (n, s). is_unsettled s) (enumerate_from 0 (scenarios plan state)))
    None
