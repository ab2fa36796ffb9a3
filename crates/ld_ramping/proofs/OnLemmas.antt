-- A user is on at a moment by its intervals as by the stage that the moment lies in.
use Rattle.std.proofs.Common.{◌≡◌, ◌∙◌, ◌<◌, ◌≤◌, ◌+◌, ◌++◌, ◌&&◌, ◌||◌, Bool, true, false, cond, if◌then◌else◌, ℕ, List, [], ◌∷◌, Option, Some, None, ap, arith, nat_le, nat_lt, refl, sym, ⊎_elim}
use Rattle.std.specs.List.{list_any}
use Rattle.std.proofs.lemmas.Bool.{cases_lt, le-leb, le-ltb, lt-leb}
use Rattle.std.proofs.lemmas.Bool.Decides.{nat_tests}
use Rattle.ld_base.specs.declared.stage.Stage.{Stage}
use Rattle.ld_ramping.specs.Active.{has_moment, is_on}
use Rattle.ld_ramping.specs.Intervals.{paired, spans}
use Rattle.ld_ramping.specs.Turns.{listed, turn_among, turn_in, turns_in}
use Rattle.ld_ramping.proofs.SpanLemmas.{span_kept, span_left_out}
use Rattle.ld_ramping.proofs.TurnLemmas.{Turned, up, down, stays, lacks, turn_case, turn_on, turn_off, turn_on-within, turn_off-within, Since, was_on, was_off, among_case}

-- whether a user is on at a moment of a stage that begins with so many users and makes this turn
abbrev pub on_within : (user users moment : ℕ) → Option ℕ → Bool
on_within user users moment None = nat_le user users
on_within user users moment (Some turn) = cond (nat_le user users) (nat_lt moment turn) (nat_le turn moment)

-- whether a user is on at a moment of stages, of which the first begins at `begin` with so many users
abbrev pub on_in : (user begin users moment : ℕ) → List Stage → Bool
on_in user begin users moment [] = false
on_in user begin users moment (stage ∷ later) =
    cond (nat_lt moment (begin + stage.length)) (on_within user users moment (turn_in user begin users stage))
    (on_in user (begin + stage.length) stage.target moment later)

-- whether a user that is on since a moment was on at an earlier one
abbrev pub on_since : (moment : ℕ) → Option ℕ → Bool
on_since moment None = false
on_since moment (Some on) = nat_le on moment

abbrev pub on_spans : (moment : ℕ) → List ℕ → Bool
on_spans moment turned = list_any (has_moment moment) (spans turned)

-- tests on the moment, stage by stage
up_test : (begin end turn user users moment : ℕ) (later : Bool) → users < user → begin ≤ turn → turn ≤ end →
    cond (nat_lt moment end) (nat_le turn moment) later
    ≡ cond (nat_lt moment begin) false (cond (nat_lt moment end) (cond (nat_le user users) (nat_lt moment turn) (nat_le turn moment)) later)
up_test begin end turn user users moment later out after before = grind (arith, nat_tests)

down_test : (on begin end turn user users moment : ℕ) (later : Bool) → user ≤ users → on ≤ begin → begin ≤ turn → turn ≤ end →
    ((nat_le on moment && nat_lt moment turn) || cond (nat_lt moment end) false later)
    ≡ cond (nat_lt moment begin) (nat_le on moment) (cond (nat_lt moment end) (cond (nat_le user users) (nat_lt moment turn) (nat_le turn moment)) later)
down_test on begin end turn user users moment later among since after before = grind (arith, nat_tests)

stays_test : (on begin end user users moment : ℕ) (later : Bool) → user ≤ users → on ≤ begin → begin ≤ end →
    cond (nat_lt moment end) (nat_le on moment) later
    ≡ cond (nat_lt moment begin) (nat_le on moment) (cond (nat_lt moment end) (nat_le user users) later)
stays_test on begin end user users moment later among since after = grind (arith, nat_tests)

lacks_test : (begin end user users moment : ℕ) (later : Bool) → users < user → begin ≤ end →
    cond (nat_lt moment end) false later
    ≡ cond (nat_lt moment begin) false (cond (nat_lt moment end) (nat_le user users) later)
lacks_test begin end user users moment later out after = grind (arith, nat_tests)

empty_test : (on off moment : ℕ) → off ≤ on → (nat_le on moment && nat_lt moment off) ≡ false
empty_test on off moment le = grind (arith, nat_tests)

last_test : (on begin moment : ℕ) →
    ((nat_le on moment && nat_lt moment begin) || false) ≡ cond (nat_lt moment begin) (nat_le on moment) false
last_test on begin moment = grind (arith, nat_tests)

-- a span that is left out has no moment
span_on : (on off moment : ℕ) (rest : List ℕ) →
    on_spans moment (on ∷ off ∷ rest) ≡ ((nat_le on moment && nat_lt moment off) || on_spans moment rest)
span_on on off moment rest = ⊎_elim
    (λ (less : on < off). ap (list_any (has_moment moment)) (span_kept on off rest less))
    (λ (le : off ≤ on). ap (list_any (has_moment moment)) (span_left_out on off rest le)
    ∙ ap (λ test. test || on_spans moment rest) (sym (empty_test on off moment le)))
    (cases_lt on off)

-- what the turns from a stage on say, where those from the next one on say it
stage_on : (user begin users moment : ℕ) (stage : Stage) (since turn : Option ℕ) (rest : List ℕ) (later : Bool) →
    Since user users begin since → Turned user begin users stage turn →
    ((held : Option ℕ) → Since user stage.target (begin + stage.length) held →
    on_spans moment (listed held ++ rest) ≡ cond (nat_lt moment (begin + stage.length)) (on_since moment held) later) →
    on_spans moment (listed since ++ (listed turn ++ rest))
    ≡ cond (nat_lt moment begin) (on_since moment since)
    (cond (nat_lt moment (begin + stage.length)) (on_within user users moment turn) later)
stage_on user begin users moment stage _ _ rest later (was_off out) (up _ below) so =
    let turn = turn_on user begin users stage in
    let within = turn_on-within user begin users stage out below in
    so (Some turn) (was_on turn below within.1)
    ∙ up_test begin (begin + stage.length) turn user users moment later out within.0 within.1
stage_on user begin users moment stage _ _ rest later (was_on on among _) (up out _) so = absurd (omega arith)
stage_on user begin users moment stage _ _ rest later (was_on on among since) (down above _) so =
    let turn = turn_off user begin users stage in
    let within = turn_off-within user begin users stage above among in
    span_on on turn moment rest
    ∙ ap (λ test. (nat_le on moment && nat_lt moment turn) || test) (so None (was_off above))
    ∙ down_test on begin (begin + stage.length) turn user users moment later among since within.0 within.1
stage_on user begin users moment stage _ _ rest later (was_off out) (down _ among) so = absurd (omega arith)
stage_on user begin users moment stage _ _ rest later (was_on on among since) (stays _ below) so =
    so (Some on) (was_on on below (omega arith))
    ∙ stays_test on begin (begin + stage.length) user users moment later among since (omega arith)
stage_on user begin users moment stage _ _ rest later (was_off out) (stays among _) so = absurd (omega arith)
stage_on user begin users moment stage _ _ rest later (was_off out) (lacks _ above) so =
    so None (was_off above) ∙ lacks_test begin (begin + stage.length) user users moment later out (omega arith)
stage_on user begin users moment stage _ _ rest later (was_on on among _) (lacks out _) so = absurd (omega arith)

both_false : (test : Bool) → cond test false false ≡ false
both_false true = refl
both_false false = refl

-- the turn at the end says that nobody is on then
last_on : (user users begin moment : ℕ) (since : Option ℕ) → Since user users begin since →
    on_spans moment (listed since ++ listed (turn_among user users begin)) ≡ cond (nat_lt moment begin) (on_since moment since) false
unfolding paired
last_on user users begin moment _ (was_on on among since) =
    ap (λ test. on_spans moment (on ∷ listed (if test then Some begin else None))) (le-leb user users among)
    ∙ span_on on begin moment [] ∙ last_test on begin moment
last_on user users begin moment _ (was_off out) =
    ap (λ test. on_spans moment (listed (if test then Some begin else None))) (lt-leb user users out)
    ∙ sym (both_false (nat_lt moment begin))

turns_on : (user begin users moment : ℕ) (stages : List Stage) (since : Option ℕ) → Since user users begin since →
    on_spans moment (listed since ++ turns_in user begin users stages)
    ≡ cond (nat_lt moment begin) (on_since moment since) (on_in user begin users moment stages)
unfolding turns_in
turns_on user begin users moment [] since held = last_on user users begin moment since held
turns_on user begin users moment (stage ∷ later) since held =
    stage_on user begin users moment stage since (turn_in user begin users stage)
    (turns_in user (begin + stage.length) stage.target later) (on_in user (begin + stage.length) stage.target moment later)
    held (turn_case user begin users stage)
    (λ (next : Option ℕ) (so : Since user stage.target (begin + stage.length) next).
    turns_on user (begin + stage.length) stage.target moment later next so)

-- a user is on by its intervals as by its stages
pub is_on-stages : (user start moment : ℕ) (stages : List Stage) → is_on user start stages moment ≡ on_in user 0 start moment stages
is_on-stages user start moment stages =
    turns_on user 0 start moment stages (turn_among user start 0) (among_case user start 0)
    ∙ ap (λ test. cond test (on_since moment (turn_among user start 0)) (on_in user 0 start moment stages)) (le-ltb moment 0 (omega arith))
