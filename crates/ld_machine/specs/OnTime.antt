-- Histories on time: no thread came so late that an iteration had outlasted its moment.
use Rattle.std.specs.Prelude.{ℕ, Bool, true, false, not, ◌&&◌, ◌||◌, nat_le, nat_lt, List, [], ◌∷◌, flat_map, IsTrue}
use Rattle.std.specs.List.{list_all}
use Rattle.ld_base.specs.declared.act.Act.{Act}
use Rattle.ld_base.specs.declared.act.Act.TheVariants.{Return, Control}
use Rattle.ld_base.specs.declared.entry.Entry.{Entry}
use Rattle.ld_machine.specs.Plan.{Plan}
use Rattle.ld_machine.specs.State.{State, opening}
use Rattle.ld_machine.specs.Wait.{untils}
use Rattle.ld_machine.specs.Effect.{after_entry}

-- no busy user's `until` is at or before t
abbrev pub nobody_overdue : State → ℕ → Bool
nobody_overdue state t = list_all (nat_lt t) (flat_map untils state.shares)

-- an ask for an act added the entry
abbrev pub is_asked_act : Act → Bool
is_asked_act (Return _ _ _ _ _) = false
is_asked_act (Control _) = false
is_asked_act _ = true

-- the readings of these entries don't fall, from the moment `since` on
abbrev pub readings_rise : ℕ → List Entry → Bool
readings_rise since [] = true
readings_rise since (entry ∷ rest) = nat_le since entry.reading && readings_rise entry.reading rest

-- the last reading of these entries, or else `since`
abbrev pub last_reading : ℕ → List Entry → ℕ
last_reading since [] = since
last_reading since (entry ∷ rest) = last_reading entry.reading rest

-- nobody is overdue in the state before each entry that an ask for an act added, nor at t behind all
abbrev pub on_time_from : Plan → State → List Entry → ℕ → Bool
on_time_from plan state [] t = nobody_overdue state t
on_time_from plan state (entry ∷ rest) t =
    (not (is_asked_act entry.act) || nobody_overdue state entry.reading) && on_time_from plan (after_entry plan state entry) rest t

-- a history and a reading t behind it are on time
abbrev pub is_on_time : Plan → List Entry → ℕ → Bool
is_on_time plan history t =
    readings_rise 0 history && nat_le (last_reading 0 history) t && on_time_from plan (opening plan) history t

abbrev pub IsOnTime : Plan → List Entry → ℕ → Type 0
IsOnTime plan history t = IsTrue (is_on_time plan history t)
