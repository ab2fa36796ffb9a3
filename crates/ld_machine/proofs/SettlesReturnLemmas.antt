-- Where nobody is held behind a legal history, each Start has its Return.
use Rattle.std.proofs.Common.{◌≡◌, ◌≤◌, ℕ, true, false, ◌&&◌, List, [], ◌∷◌, ◌⊎◌, inl, inr, find, arith, refl, subst}
use Rattle.std.specs.Option.{option_map_or}
use Rattle.ld_base.specs.declared.act.Act.{Act}
use Rattle.ld_base.specs.declared.act.Act.TheVariants.{Take, Grow, Start}
use Rattle.ld_base.specs.declared.entry.Entry.{Entry}
use Rattle.ld_machine.specs.Plan.{Plan}
use Rattle.ld_machine.specs.State.{State, is_idle_condition, times_among, times_held}
use Rattle.ld_machine.specs.Effect.{after_entry, after_entries}
use Rattle.ld_machine.specs.History.{adds_one, adds_two, are_steps}
use Rattle.ld_machine.specs.Settled.{is_turn_of, is_its_return, is_returned, all_returned}
use Rattle.ld_machine.proofs.ListLemmas.{both_true, some_true, number_itself}
use Rattle.ld_machine.proofs.HolderLemmas.{Holds, two_hold}
use Rattle.ld_machine.proofs.TurnLemmas.{in_share, Plays, Finds, Turn, touches, act_turn, one_finds, pair_of, pair_turns, goes_on, one_holds, times_there, start_plays, gain_held, split_held, user_found}

-- nobody is held behind these entries
abbrev NobodyBehind : Plan → List Entry → State → Type 0
NobodyBehind plan history state = (user : ℕ) → times_held user (after_entries plan state history).shares ≡ 0

-- the next Start or Return of the user in these entries is the Return of this iteration
abbrev Returns : ℕ → ℕ → ℕ → List Entry → Type 0
Returns n user item history =
    option_map_or (λ (entry : Entry). is_its_return n user item entry.act) (find (λ (entry : Entry). is_turn_of user entry.act) history) false ≡ true

turn_returns : (n user item : ℕ) (one : Entry) (rest : List Entry) → Turn n user item one.act → (touches user one.act ≡ false → Returns n user item rest) →
    Returns n user item (one ∷ rest)
turn_returns n user item one rest turn later = elim turn [
  | inl its ↦ rw its.0 its.1
  | inr none ↦ rw none.0 (later none.1)
]

-- who plays and isn't held at the end returns before
plays_returns : (plan : Plan) (n user item : ℕ) (history : List Entry) (state : State) → are_steps plan state history ≡ true → Holds state →
    Plays state n user item → NobodyBehind plan history state → Returns n user item history
plays_returns plan n user item [] state h holds plays nobody =
    let none = nobody user in
    let split = split_held user item n state.shares in
    absurd (omega arith)
plays_returns plan n user item (one ∷ []) state h holds plays nobody =
    turn_returns n user item one [] (act_turn state n user item one.act holds plays (one_finds plan state one h))
    (λ apart. plays_returns plan n user item [] (after_entry plan state one) refl (one_holds plan state one holds h)
    (goes_on plan state one n user item apart plays) nobody)
plays_returns plan n user item (one ∷ two ∷ rest) state h holds plays nobody =
    elim (some_true (adds_one plan state one && are_steps plan (after_entry plan state one) (two ∷ rest)) _ h) [
      | inl first ↦
          let both = both_true (adds_one plan state one) _ first in
          turn_returns n user item one (two ∷ rest) (act_turn state n user item one.act holds plays (one_finds plan state one both.0))
          (λ apart. plays_returns plan n user item (two ∷ rest) (after_entry plan state one) both.1 (one_holds plan state one holds both.0)
          (goes_on plan state one n user item apart plays) nobody)
      | inr second ↦
          let both = both_true (adds_two plan state one two) _ second in
          let turns = pair_turns plan state one two n user item holds plays both.0 in
          let later = plays_returns plan n user item rest (after_entry plan (after_entry plan state one) two) both.1 (two_hold plan state one two holds both.0)
          (goes_on plan (after_entry plan state one) two n user item turns.1.1 (goes_on plan state one n user item turns.0.1 plays)) nobody in
          rw (turns.0.0, turns.1.0) later
    ]

-- ---- whole histories

entry_returned : (plan : Plan) (state : State) (at thread t : ℕ) (act : Act) (rest : List Entry) →
    let after = after_entry plan state (record { turn = at; thread = thread; act = act; reading = t }) in
    are_steps plan after rest ≡ true → Holds after → Finds state act → NobodyBehind plan rest after → is_returned act rest ≡ true
entry_returned plan state at thread t (Start n user item until) rest h holds f nobody =
    let held = times_there user f.holder f.share n state.shares f.stands f.held (user_found state n user user is_idle_condition f (number_itself user)) in
    plays_returns plan n user item rest _ h holds (start_plays plan state at thread t n user item until held) nobody
entry_returned plan state at thread t _ rest h holds f nobody = refl

gain_returned : (k user slot : ℕ) (act : Act) (rest : List Entry) → (Take k user slot ≡ act) ⊎ (Grow k user slot ≡ act) → is_returned act rest ≡ true
gain_returned k user slot act rest gains = elim gains [
  | inl e ↦ subst (λ a. is_returned a rest ≡ true) e refl
  | inr e ↦ subst (λ a. is_returned a rest ≡ true) e refl
]

second_returned : (plan : Plan) (state : State) (at thread t n user item until : ℕ) (act : Act) (rest : List Entry) →
    let after = after_entry plan state (record { turn = at; thread = thread; act = act; reading = t }) in
    are_steps plan after rest ≡ true → Holds after → Start n user item until ≡ act → 1 ≤ in_share (times_among user) n state.shares →
    NobodyBehind plan rest after → is_returned act rest ≡ true
second_returned plan state at thread t n user item until act rest h holds e held nobody =
    let after : Act → State = λ a. after_entry plan state (record { turn = at; thread = thread; act = a; reading = t }) in
    let Q : Act → Type 0 = λ a. are_steps plan (after a) rest ≡ true → Holds (after a) → NobodyBehind plan rest (after a) → is_returned a rest ≡ true in
    let started : Q (Start n user item until) = λ steps hold none.
    plays_returns plan n user item rest _ steps hold (start_plays plan state at thread t n user item until held) none in
    subst Q e started h holds nobody

pub steps_returned : (plan : Plan) (history : List Entry) (state : State) → are_steps plan state history ≡ true → Holds state →
    NobodyBehind plan history state → all_returned history ≡ true
steps_returned plan [] state h holds nobody = refl
steps_returned plan (one ∷ []) state h holds nobody =
    rw (entry_returned plan state one.turn one.thread one.reading one.act [] refl (one_holds plan state one holds h) (one_finds plan state one h) nobody) refl
steps_returned plan (one ∷ two ∷ rest) state h holds nobody =
    elim (some_true (adds_one plan state one && are_steps plan (after_entry plan state one) (two ∷ rest)) _ h) [
      | inl first ↦
          let both = both_true (adds_one plan state one) _ first in
          let held = one_holds plan state one holds both.0 in
          rw (entry_returned plan state one.turn one.thread one.reading one.act (two ∷ rest) both.1 held (one_finds plan state one both.0) nobody)
          (steps_returned plan (two ∷ rest) (after_entry plan state one) both.1 held nobody)
      | inr second ↦
          let both = both_true (adds_two plan state one two) _ second in
          let held = two_hold plan state one two holds both.0 in
          let p = pair_of plan state one two both.0 in
          let there_now = gain_held plan state one.turn one.thread one.reading one.act p.scenario p.user p.slot p.share p.stands p.gains in
          rw (
            gain_returned p.scenario p.user p.slot one.act (two ∷ rest) p.gains,
            second_returned plan (after_entry plan state one) two.turn two.thread two.reading p.scenario p.user p.item p.until two.act rest both.1 held p.starts there_now nobody,
          )
          (steps_returned plan rest (after_entry plan (after_entry plan state one) two) both.1 held nobody)
    ]
