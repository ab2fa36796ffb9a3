-- Histories that grow.
use Rattle.std.proofs.Common.{◌≡◌, ◌+◌, ℕ, List, [], ◌∷◌, ◌++◌, Option, None, Some, slice_get, length, arith, refl, ap, ◌∙◌}
use Rattle.std.specs.Option.{option_map_or}
use Rattle.ld_base.specs.declared.act.Act.{Act}
use Rattle.ld_base.specs.declared.act.Act.TheVariants.{Take, Grow, Start, Drop, Late, Return, Release, Stop, Close, Control}
use Rattle.ld_base.specs.declared.command.Command.{Command}
use Rattle.ld_base.specs.declared.command.Command.TheVariants as commands
use Rattle.ld_base.specs.declared.entry.Entry.{Entry}
use Rattle.ld_machine.specs.Plan.{Part, Plan}
use Rattle.ld_machine.specs.State.{State, opening}
use Rattle.ld_machine.specs.Commands.{after_command}
use Rattle.ld_machine.specs.Effect.{after_act, after_entry, after_entries, change_share, end_item, end_item_of, state_after}
use Rattle.ld_core.specs.CoreView.{Adds, CoreView, next_entry, plan_of, state_of}

ended_entries : (plan : Plan) (n item : ℕ) (state : State) → (end_item_of plan n item state).entries ≡ state.entries
ended_entries plan n item state =
    let P : Option Part → Type 0 = λ o. (option_map_or (λ part. change_share state n (end_item part item)) o state).entries ≡ state.entries in
    elim (slice_get plan.parts n) as P [ None ↦ refl | Some part ↦ refl ]

commanded_entries : (state : State) (command : Command) (t : ℕ) → (after_command state command t).entries ≡ state.entries
commanded_entries state commands.Stop t = refl
commanded_entries state (commands.Pause b) t = refl
commanded_entries state (commands.Vus n) t = refl
commanded_entries state (commands.VusMax n) t = refl

acted_entries : (plan : Plan) (state : State) (thread t : ℕ) (act : Act) → (after_act plan state thread t act).entries ≡ state.entries
acted_entries plan state thread t (Take n user slot) = refl
acted_entries plan state thread t (Grow n user slot) = refl
acted_entries plan state thread t (Start n user item until) = ended_entries plan n item _
acted_entries plan state thread t (Drop n item) = ended_entries plan n item state
acted_entries plan state thread t (Late n item) = ended_entries plan n item state
acted_entries plan state thread t (Return n user item outcome tally) = refl
acted_entries plan state thread t (Release n user) = refl
acted_entries plan state thread t (Stop n) = refl
acted_entries plan state thread t (Close n) = refl
acted_entries plan state thread t (Control command) = commanded_entries state command t

counted : (plan : Plan) (entries : List Entry) (state : State) → (after_entries plan state entries).entries ≡ state.entries + length entries
counted plan [] state = omega arith
counted plan (e ∷ rest) state =
    let later = counted plan rest (after_entry plan state e) in
    let same = acted_entries plan state e.thread e.reading e.act in
    let one : (after_entry plan state e).entries ≡ state.entries + 1 = ap (λ (k : ℕ). k + 1) same in
    omega arith

-- the state behind a history counts its entries
pub entries_counted : (plan : Plan) (entries : List Entry) → (state_after plan entries).entries ≡ length entries
entries_counted plan entries = let total = counted plan entries (opening plan) in omega arith

after_more : (plan : Plan) (front back : List Entry) (state : State) → after_entries plan state (front ++ back) ≡ after_entries plan (after_entries plan state front) back
after_more plan [] back state = refl
after_more plan (e ∷ front) back state = after_more plan front back (after_entry plan state e)

-- the state behind one entry more
pub state_added : (old new : CoreView) (thread t : ℕ) (act : Act) → Adds old new thread t act →
    state_of new ≡ after_entry (plan_of old) (state_of old) (next_entry old thread t act)
state_added old new thread t act adds =
    let plans : plan_of new ≡ plan_of old = rw adds.plan refl in
    let moved : state_of new ≡ state_after (plan_of old) new.entries = ap (λ (p : Plan). state_after p new.entries) plans in
    moved ∙ ap (λ (es : List Entry). state_after (plan_of old) es) adds.entries
    ∙ after_more (plan_of old) old.entries (next_entry old thread t act ∷ []) (opening (plan_of old))
