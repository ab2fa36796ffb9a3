-- The state behind a history and one entry more.
use Rattle.std.proofs.Common.{◌≡◌, ◌+◌, ℕ, List, [], ◌∷◌, ◌++◌, Option, None, Some, length, slice_get, refl, arith, ◌∙◌}
use Rattle.std.specs.Option.{option_map_or}
use Rattle.ld_base.specs.declared.act.Act.{Act}
use Rattle.ld_base.specs.declared.act.Act.TheVariants.{Take, Grow, Start, Drop, Late, Return, Release, Stop, Close, Control}
use Rattle.ld_base.specs.declared.command.Command.TheVariants as commands
use Rattle.ld_base.specs.declared.entry.Entry.{Entry}
use Rattle.ld_machine.specs.Plan.{Part, Plan}
use Rattle.ld_machine.specs.State.{Busy, State, opening}
use Rattle.ld_machine.specs.Effect.{end_item, end_item_of, put_condition, change_share, after_act, after_entry, after_entries, state_after}

entries_push : (plan : Plan) (state : State) (entries : List Entry) (entry : Entry) →
    after_entries plan state (entries ++ entry ∷ []) ≡ after_entry plan (after_entries plan state entries) entry
entries_push plan state [] entry = refl
entries_push plan state (first ∷ rest) entry = entries_push plan (after_entry plan state first) rest entry

-- an entry goes on from the state so far
pub state_push : (plan : Plan) (entries : List Entry) (entry : Entry) →
    state_after plan (entries ++ entry ∷ []) ≡ after_entry plan (state_after plan entries) entry
state_push plan entries entry = entries_push plan (opening plan) entries entry

ended_entries : (plan : Plan) (n item : ℕ) (state : State) → (end_item_of plan n item state).entries ≡ state.entries
ended_entries plan n item state =
    let P : Option Part → Type 0 = λ o. (option_map_or (λ part. change_share state n (end_item part item)) o state).entries ≡ state.entries in
    elim (slice_get plan.parts n) as P [ None ↦ refl | Some part ↦ refl ]

pub act_entries : (plan : Plan) (state : State) (thread t : ℕ) (act : Act) → (after_act plan state thread t act).entries ≡ state.entries
act_entries plan state thread t (Take n user slot) = refl
act_entries plan state thread t (Grow n user slot) = refl
act_entries plan state thread t (Start n user item until) = ended_entries plan n item (change_share state n (put_condition user (Busy thread item until)))
act_entries plan state thread t (Drop n item) = ended_entries plan n item state
act_entries plan state thread t (Late n item) = ended_entries plan n item state
act_entries plan state thread t (Return n user item outcome tally) = refl
act_entries plan state thread t (Release n user) = refl
act_entries plan state thread t (Stop n) = refl
act_entries plan state thread t (Close n) = refl
act_entries plan state thread t (Control commands.Stop) = refl
act_entries plan state thread t (Control (commands.Pause _)) = refl
act_entries plan state thread t (Control (commands.Vus _)) = refl
act_entries plan state thread t (Control (commands.VusMax _)) = refl

entries_from : (plan : Plan) (state : State) (entries : List Entry) → (after_entries plan state entries).entries ≡ state.entries + length entries
entries_from plan state [] = omega arith
entries_from plan state (entry ∷ rest) =
    let later = entries_from plan (after_entry plan state entry) rest in
    let now = act_entries plan state entry.thread entry.reading entry.act in
    omega arith

-- the state counts the entries of its history
pub entries_counted : (plan : Plan) (entries : List Entry) → (state_after plan entries).entries ≡ length entries
entries_counted plan entries = let all = entries_from plan (opening plan) entries in omega arith

-- ---- samples

-- how many samples an act brings
abbrev pub act_samples : Act → ℕ
act_samples (Return n user item outcome tally) = length tally.samples
act_samples _ = 0

ended_samples : (plan : Plan) (n item : ℕ) (state : State) → (end_item_of plan n item state).samples ≡ state.samples
ended_samples plan n item state =
    let P : Option Part → Type 0 = λ o. (option_map_or (λ part. change_share state n (end_item part item)) o state).samples ≡ state.samples in
    elim (slice_get plan.parts n) as P [ None ↦ refl | Some part ↦ refl ]

none_more : (n : ℕ) → n ≡ n + 0
none_more n = omega arith

pub acted_samples : (plan : Plan) (state : State) (thread t : ℕ) (act : Act) → (after_act plan state thread t act).samples ≡ state.samples + act_samples act
acted_samples plan state thread t (Take n user slot) = none_more state.samples
acted_samples plan state thread t (Grow n user slot) = none_more state.samples
acted_samples plan state thread t (Start n user item until) =
    ended_samples plan n item (change_share state n (put_condition user (Busy thread item until))) ∙ none_more state.samples
acted_samples plan state thread t (Drop n item) = ended_samples plan n item state ∙ none_more state.samples
acted_samples plan state thread t (Late n item) = ended_samples plan n item state ∙ none_more state.samples
acted_samples plan state thread t (Return n user item outcome tally) = refl
acted_samples plan state thread t (Release n user) = none_more state.samples
acted_samples plan state thread t (Stop n) = none_more state.samples
acted_samples plan state thread t (Close n) = none_more state.samples
acted_samples plan state thread t (Control commands.Stop) = none_more state.samples
acted_samples plan state thread t (Control (commands.Pause _)) = none_more state.samples
acted_samples plan state thread t (Control (commands.Vus _)) = none_more state.samples
acted_samples plan state thread t (Control (commands.VusMax _)) = none_more state.samples

-- the state behind an entry counts the samples that it brings
pub samples_behind : (plan : Plan) (state : State) (entry : Entry) → (after_entry plan state entry).samples ≡ state.samples + act_samples entry.act
samples_behind plan state entry = acted_samples plan state entry.thread entry.reading entry.act
