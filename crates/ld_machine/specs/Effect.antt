-- What entries do to the state.
use Rattle.std.specs.Prelude.{ℕ, true, not, zero, suc, ◌+◌, ◌==◌, nat_lt, List, [], ◌∷◌, ◌++◌, map, filter, length, slice_get, if◌then◌else◌}
use Rattle.std.specs.List.{list_any}
use Rattle.std.specs.Option.{option_map_or}
use Rattle.ld_base.specs.declared.act.Act.{Act}
use Rattle.ld_base.specs.declared.act.Act.TheVariants.{Take, Grow, Start, Drop, Late, Return, Release, Stop, Close, Control}
use Rattle.ld_base.specs.declared.entry.Entry.{Entry}
use Rattle.ld_machine.specs.Plan.{Part, Plan, owned_items}
use Rattle.ld_machine.specs.State.{Halted, Condition, Idle, Busy, HeldUser, Share, State, opening}
use Rattle.ld_machine.specs.Commands.{after_command}

-- ---- what entries do to one share

-- the users with one user more, in order of their numbers
abbrev pub with_user : HeldUser → List HeldUser → List HeldUser
with_user h [] = h ∷ []
with_user h (other ∷ rest) = if nat_lt h.user other.user then h ∷ other ∷ rest else other ∷ with_user h rest

-- the user is held from now on, idle, and has the slot
abbrev pub hold : ℕ → ℕ → Share → Share
hold user slot share = record share { held = with_user (record { user = user; slot = slot; condition = Idle }) share.held }

-- a held user, under a new condition if it is the one meant
abbrev pub if_user : ℕ → Condition → HeldUser → HeldUser
if_user user condition h = if h.user == user then record h { condition = condition } else h

-- the user is under this condition from now on
abbrev pub put_condition : ℕ → Condition → Share → Share
put_condition user condition share = record share { held = map (if_user user condition) share.held }

-- the user isn't held any more
abbrev pub let_go : ℕ → Share → Share
let_go user share = record share { held = filter (λ (h : HeldUser). not (h.user == user)) share.held }

-- the item isn't open any more, where it is an owned one
abbrev pub end_item : Part → ℕ → Share → Share
end_item part item share =
    if list_any (λ k. k == item) (owned_items part.executor) then record share { ended = share.ended ++ item ∷ [] } else share

-- ---- what they do to the state

-- the shares with that of one scenario changed
abbrev pub change_at : ℕ → (Share → Share) → List Share → List Share
change_at n change [] = []
change_at zero change (share ∷ rest) = change share ∷ rest
change_at (suc n) change (share ∷ rest) = share ∷ change_at n change rest

-- the state with one share changed
abbrev pub change_share : State → ℕ → (Share → Share) → State
change_share state n change = record state { shares = change_at n change state.shares }

-- the state with an item of a scenario ended
abbrev pub end_item_of : Plan → ℕ → ℕ → State → State
end_item_of plan n item state =
    option_map_or (λ part. change_share state n (end_item part item)) (slice_get plan.parts n) state

-- the state behind an act of a thread at the reading t, its entry aside
abbrev pub after_act : Plan → State → ℕ → ℕ → Act → State
after_act plan state thread t (Take n user slot) = change_share state n (hold user slot)
after_act plan state thread t (Grow n user slot) =
    change_share (record state { made = state.made + 1 }) n (hold user slot)
after_act plan state thread t (Start n user item until) =
    end_item_of plan n item (change_share state n (put_condition user (Busy thread item until)))
after_act plan state thread t (Drop n item) = end_item_of plan n item state
after_act plan state thread t (Late n item) = end_item_of plan n item state
after_act plan state thread t (Return n user item outcome tally) =
    change_share (record state { samples = state.samples + length tally.samples }) n (put_condition user Idle)
after_act plan state thread t (Release n user) = change_share state n (let_go user)
after_act plan state thread t (Stop n) = change_share state n (λ share. record share { level = Halted })
after_act plan state thread t (Close n) = change_share state n (λ share. record share { closed = true })
after_act plan state thread t (Control command) = after_command state command t

-- one entry more
abbrev pub count_entry : State → State
count_entry state = record state { entries = state.entries + 1 }

-- the state behind an entry
abbrev pub after_entry : Plan → State → Entry → State
after_entry plan state entry = count_entry (after_act plan state entry.thread entry.reading entry.act)

-- the state behind entries, one after another
abbrev pub after_entries : Plan → State → List Entry → State
after_entries plan state [] = state
after_entries plan state (entry ∷ rest) = after_entries plan (after_entry plan state entry) rest

-- the state behind a history, from the opening on
abbrev pub state_after : Plan → List Entry → State
state_after plan history = after_entries plan (opening plan) history
