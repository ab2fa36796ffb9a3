-- The asks other than those for an act.
use Rattle.std.proofs.Common.{◌≡◌, ◌≢◌, ◌+◌, ℕ, zero, suc, Bool, true, false, cond, List, [], ◌∷◌, ◌++◌, Option, None, Some, Contains, slice_get, length, arith, refl, ap, sym, subst, ◌∙◌}
use Rattle.std.specs.List.{list_all}
use Rattle.std.specs.Option.{option_map_or}
use Rattle.std.proofs.lemmas.Grind.{common_steps}
use Rattle.std.proofs.lemmas.Option.{slice_get_within}
use Rattle.ld_base.specs.Stint.{StintView}
use Rattle.ld_base.specs.Tally.{TallyView}
use Rattle.ld_base.specs.declared.act.Act.{Act}
use Rattle.ld_base.specs.declared.act.Act.TheVariants as acts
use Rattle.ld_base.specs.declared.act.Outcome.{Outcome}
use Rattle.ld_base.specs.declared.ask.Ask.{Ask}
use Rattle.ld_base.specs.declared.ask.Ask.TheVariants as asks
use Rattle.ld_base.specs.declared.command.Command.{Command}
use Rattle.ld_base.specs.declared.command.Command.TheVariants as commands
use Rattle.ld_base.specs.declared.entry.Entry.{Entry}
use Rattle.ld_base.specs.declared.reply.Reply.{Reply}
use Rattle.ld_base.specs.declared.reply.Reply.TheVariants.{Alive, Denied, Go, Halt, Noted, Over}
use Rattle.ld_machine.specs.State as machine
use Rattle.ld_machine.specs.Commands.{is_denied}
use Rattle.ld_machine.specs.Moves.{scenarios}
use Rattle.ld_machine.specs.Room.{entries_refusal}
use Rattle.ld_machine.specs.Scenario.{Scenario}
use Rattle.ld_machine.specs.Step.{Result, answered, check_reply, level_halts, outcome_of, performed, results, return_of}
use Rattle.ld_machine.proofs.FirstOfAllLemmas.{all_from, closed_over, each_closed, false_unless}
use Rattle.ld_machine.proofs.ListLemmas.{here, both_true, Contains-from_In}
use Rattle.ld_executor.specs.declared.executor_state.ExecutorState.{ExecutorState}
use Rattle.ld_machine.specs.Told.{level_number}
use Rattle.ld_executor.specs.Shows as executors
use Rattle.ld_executor.specs.Shows.{closed_of}
use Rattle.ld_executor.proofs.ShownLemmas.{shown_closed}
use Rattle.ld_core.specs.Changes.{IsReturn}
use Rattle.ld_core.specs.Core.{IsCore, core_view}
use Rattle.ld_core.specs.CoreView.{Adds, CoreView, IsAsked, plan_of, state_of}
use Rattle.ld_core.specs.declared.machine.Core.TheInside.{Inside}
use Rattle.ld_core.proofs.HistoryLemmas.{entries_counted}
use Rattle.ld_core.proofs.ShownLemmas.{kept_there, part_there, scenario_there, shown_there}
use Rattle.ld_core.proofs.WaitLemmas.{none_external}

nothing_more : (es : List Entry) → es ≡ es ++ []
nothing_more es = grind (arith, common_steps)

only_one : {A : Type 0} (x : A) → Contains (x ∷ []) x
only_one x = Contains-from_In x (here {xs = []})

-- where there is one result without an entry, it is the step
pub answered_alone : (core : CoreView) (thread t : ℕ) (ask : Ask) (reply : Reply) →
    results (plan_of core) (state_of core) thread ask t ≡ answered (state_of core) reply ∷ [] → IsAsked core core thread ask t reply
answered_alone core thread t ask reply only =
    record {
      result = answered (state_of core) reply;
      step = subst (λ (rs : List Result). Contains rs (answered (state_of core) reply)) (sym only) (only_one (answered (state_of core) reply));
      reply_is = refl;
      entries = nothing_more core.entries;
      plan = refl;
    }

-- where there is one that notes an act, it is the step
pub noted_alone : (core new : CoreView) (thread t : ℕ) (ask : Ask) (act : Act) →
    results (plan_of core) (state_of core) thread ask t ≡ performed (plan_of core) (state_of core) thread t Noted (act ∷ []) ∷ [] →
    Adds core new thread t act → IsAsked core new thread ask t Noted
noted_alone core new thread t ask act only adds =
    let result = performed (plan_of core) (state_of core) thread t Noted (act ∷ []) in
    let turn : (state_of core).entries + 1 ≡ length core.entries + 1 = let total = entries_counted (plan_of core) core.entries in omega arith in
    record {
      result = result;
      step = subst (λ (rs : List Result). Contains rs result) (sym only) (only_one result);
      reply_is = refl;
      entries = rw turn adds.entries;
      plan = adds.plan;
    }

-- ---- closed, and halts

all_at : (xs : List ExecutorState) → list_all closed_of xs ≡ true → (n : ℕ) (k : ExecutorState) → slice_get xs n ≡ Some k → closed_of k ≡ true
all_at [] all n k at = absurd (cc)
all_at (x ∷ xs) all zero k at = let both = both_true (closed_of x) (list_all closed_of xs) all in let same : x ≡ k = cc in subst (λ (v : ExecutorState). closed_of v ≡ true) same both.0
all_at (x ∷ xs) all (suc n) k at = let both = both_true (closed_of x) (list_all closed_of xs) all in all_at xs both.1 n k at

at_all : (xs : List ExecutorState) → ((n : ℕ) (k : ExecutorState) → slice_get xs n ≡ Some k → closed_of k ≡ true) → list_all closed_of xs ≡ true
at_all [] each = refl
at_all (x ∷ xs) each = rw (each 0 x refl, at_all xs (λ n k at. each (suc n) k at)) refl

closed_kept : (c : Inside) (is : IsCore c) → list_all closed_of c.scenarios.items ≡ machine.all_closed (state_of (core_view c))
closed_kept c is =
    let state = state_of (core_view c) in
    let P : Bool → Type 0 = λ b. list_all closed_of c.scenarios.items ≡ b → b ≡ machine.all_closed state in
    let either : P (list_all closed_of c.scenarios.items) = elim (list_all closed_of c.scenarios.items) as P [
      | true ↦ λ all. sym (all_from state.shares (λ n share at.
          let s = share_scenario n share at in
          let k = kept_there is.shows n s.0 s.1 in
          let closed = all_at c.scenarios.items all n k.0 k.1 in
          ap (λ (x : machine.Share). x.closed) (sym s.2) ∙ sym (shown_closed k.0 s.0 k.2) ∙ closed))
      | false ↦ λ all. sym (false_unless (machine.all_closed state) (λ closed.
          let every = at_all c.scenarios.items (λ n k at.
          let s = shown_there is.shows n k at in
          shown_closed k s.0 s.2 ∙ each_closed state closed n s.0.share (part_there is.shows n s.0 s.1).1) in
          absurd (cc)))
    ] in either refl
  where
    share_scenario : (n : ℕ) (share : machine.Share) → slice_get (state_of (core_view c)).shares n ≡ Some share →
        (s : Scenario) × (slice_get (scenarios c.plan.plan (state_of (core_view c))) n ≡ Some s) × (s.share ≡ share)
    share_scenario n share at =
        let within = slice_get_within (state_of (core_view c)).shares n share at in
        let long = is.shows.count in
        let s = scenario_there is.shows n (omega arith) in
        let there = part_there is.shows n s.0 s.1 in
        (s.0, s.1, let both : Some s.0.share ≡ Some share = sym there.1 ∙ at in cc)

pub closed_shown : (c : Inside) → IsCore c → (now : CoreView) → core_view c ≡ now → (closed : Bool) → closed ≡ list_all closed_of c.scenarios.items →
    closed ≡ machine.all_closed (state_of now)
closed_shown c is now view closed shown = shown ∙ closed_kept c is ∙ ap (λ (v : CoreView). machine.all_closed (state_of v)) view

pub over : (core : CoreView) (thread t : ℕ) → machine.all_closed (state_of core) ≡ true → IsAsked core core thread asks.Act t Over
over core thread t closed = answered_alone core thread t asks.Act Over (closed_over (plan_of core) (state_of core) t thread closed)

-- ---- Check and Look

halted : (level : machine.Level) → level_number level ≡ 2 → level_halts level ≡ true
halted machine.Runs e = absurd (omega arith)
halted (machine.StartsNothing commanded) e = absurd (omega arith)
halted machine.Halted e = refl

not_halted : (level : machine.Level) → level_number level ≢ 2 → level_halts level ≡ false
not_halted machine.Runs e = refl
not_halted (machine.StartsNothing commanded) e = refl
not_halted machine.Halted e = absurd (e refl)

checked : (core : CoreView) (n : ℕ) (share : machine.Share) → slice_get (state_of core).shares n ≡ Some share → (halts : Bool) → level_halts share.level ≡ halts → (thread t : ℕ) →
    IsAsked core core thread (asks.Check n) t (cond halts Halt Go)
checked core n share at halts level thread t =
    let reply : check_reply share ≡ cond halts Halt Go = rw level refl in
    let all : results (plan_of core) (state_of core) thread (asks.Check n) t ≡ answered (state_of core) (check_reply share) ∷ [] =
    ap (λ (o : Option machine.Share). option_map_or (λ (share : machine.Share). answered (state_of core) (check_reply share) ∷ []) o []) at in
    answered_alone core thread t (asks.Check n) (cond halts Halt Go) (all ∙ ap (λ (r : Reply). answered (state_of core) r ∷ []) reply)

module _ (c : Inside) (is : IsCore c) (now : CoreView) (view : core_view c ≡ now) (n : ℕ) (k : ExecutorState) (at : slice_get c.scenarios.items n ≡ Some k)
    (level : ℕ) (level_is : (s : Scenario) → executors.Shows k s → level ≡ level_number s.share.level) where
  pub halts : level ≡ 2 → (thread t : ℕ) → IsAsked now now thread (asks.Check n) t Halt
  halts two thread t =
      let s = shown_there is.shows n k at in
      let there = part_there is.shows n s.0 s.1 in
      subst (λ (v : CoreView). IsAsked v v thread (asks.Check n) t Halt) view
      (checked (core_view c) n s.0.share there.1 true (halted s.0.share.level (sym (level_is s.0 s.2) ∙ two)) thread t)

  pub goes : level ≢ 2 → (thread t : ℕ) → IsAsked now now thread (asks.Check n) t Go
  goes other thread t =
      let s = shown_there is.shows n k at in
      let there = part_there is.shows n s.0 s.1 in
      subst (λ (v : CoreView). IsAsked v v thread (asks.Check n) t Go) view
      (checked (core_view c) n s.0.share there.1 false (not_halted s.0.share.level (λ e. other (level_is s.0 s.2 ∙ e))) thread t)

pub look_over : (core : CoreView) (thread t : ℕ) → machine.all_closed (state_of core) ≡ true → IsAsked core core thread asks.Look t Over
look_over core thread t closed = answered_alone core thread t asks.Look Over (rw closed refl)

pub look_alive : (c : Inside) → IsCore c → (now : CoreView) → core_view c ≡ now → machine.all_closed (state_of now) ≡ false → (thread t : ℕ) →
    IsAsked now now thread asks.Look t (Alive false c.stopped 0 0)
look_alive c is now view goes_on thread t =
    let P : CoreView → Type 0 = λ v. machine.all_closed (state_of v) ≡ false → IsAsked v v thread asks.Look t (Alive false c.stopped 0 0) in
    let inside : P (core_view c) = λ goes. answered_alone (core_view c) thread t asks.Look (Alive false c.stopped 0 0)
    (rw (goes, is.shows.stop) (ap (λ (k : machine.Controls). answered (state_of (core_view c)) (Alive k.paused (state_of (core_view c)).stop_commanded k.vus k.vus_max) ∷ []) is.shows.controls)) in
    subst P view inside goes_on

-- ---- Return

pub returned : (core new : CoreView) (thread t : ℕ) (stint : StintView) (finished : Bool) (tally : TallyView) → IsReturn core thread stint tally →
    (outcome : Outcome) → outcome ≡ outcome_of finished t stint.until → Adds core new thread t (acts.Return stint.scenario stint.user stint.item outcome tally) →
    IsAsked core new thread (asks.Return stint finished tally) t Noted
returned core new thread t stint finished tally may outcome is adds =
    let act : return_of stint (outcome_of finished t stint.until) tally ≡ acts.Return stint.scenario stint.user stint.item outcome tally = rw is refl in
    let all : results (plan_of core) (state_of core) thread (asks.Return stint finished tally) t
    ≡ performed (plan_of core) (state_of core) thread t Noted (return_of stint (outcome_of finished t stint.until) tally ∷ []) ∷ [] = rw (may.out, may.fits) refl in
    noted_alone core new thread t (asks.Return stint finished tally) (acts.Return stint.scenario stint.user stint.item outcome tally)
    (all ∙ ap (λ (a : Act). performed (plan_of core) (state_of core) thread t Noted (a ∷ []) ∷ []) act) adds

-- ---- Control

pub denied : (core : CoreView) (thread t : ℕ) (command : Command) → is_denied (plan_of core) (state_of core) command ≡ true → IsAsked core core thread (asks.Control command) t Denied
denied core thread t command no_leave = answered_alone core thread t (asks.Control command) Denied (rw no_leave refl)

stopped_kept : (c : Inside) → IsCore c → (now : CoreView) → core_view c ≡ now → (state_of now).stop_commanded ≡ c.stopped
stopped_kept c is now view = ap (λ (v : CoreView). (state_of v).stop_commanded) (sym view) ∙ sym is.shows.stop

pub denied_again : (c : Inside) → IsCore c → (now : CoreView) → core_view c ≡ now → (thread t : ℕ) → c.stopped ≡ true → IsAsked now now thread (asks.Control commands.Stop) t Denied
denied_again c is now view thread t stopped = denied now thread t commands.Stop (stopped_kept c is now view ∙ stopped)

denied_others : (c : Inside) (is : IsCore c) (command : Command) → command ≢ commands.Stop → is_denied c.plan.plan (state_of (core_view c)) command ≡ true
denied_others c is commands.Stop other = absurd (other refl)
denied_others c is (commands.Pause b) other = rw (none_external is.shows) refl
denied_others c is (commands.Vus n) other = rw (none_external is.shows) refl
denied_others c is (commands.VusMax n) other = rw (none_external is.shows) refl

pub denied_other : (c : Inside) → IsCore c → (now : CoreView) → core_view c ≡ now → (thread t : ℕ) (command : Command) → command ≢ commands.Stop →
    IsAsked now now thread (asks.Control command) t Denied
denied_other c is now view thread t command other =
    subst (λ (v : CoreView). IsAsked v v thread (asks.Control command) t Denied) view (denied (core_view c) thread t command (denied_others c is command other))

stop_is : (core : CoreView) (thread t : ℕ) (refusal : Option Reply) → (state_of core).stop_commanded ≡ false → refusal ≡ entries_refusal (plan_of core) (state_of core) 1 0 →
    results (plan_of core) (state_of core) thread (asks.Control commands.Stop) t
    ≡ option_map_or (answered (state_of core)) refusal (performed (plan_of core) (state_of core) thread t Noted (acts.Control commands.Stop ∷ [])) ∷ []
stop_is core thread t refusal first is = rw (first, is) refl

pub stop_refused : (c : Inside) → IsCore c → (now : CoreView) → core_view c ≡ now → (thread t : ℕ) → c.stopped ≡ false → (reply : Reply) →
    Some reply ≡ entries_refusal (plan_of now) (state_of now) 1 0 → IsAsked now now thread (asks.Control commands.Stop) t reply
stop_refused c is now view thread t running reply refusal =
    answered_alone now thread t (asks.Control commands.Stop) reply (stop_is now thread t (Some reply) (stopped_kept c is now view ∙ running) refusal)

pub stop_noted : (c : Inside) → IsCore c → (now new : CoreView) → core_view c ≡ now → (thread t : ℕ) → c.stopped ≡ false →
    None ≡ entries_refusal (plan_of now) (state_of now) 1 0 → Adds now new thread t (acts.Control commands.Stop) → IsAsked now new thread (asks.Control commands.Stop) t Noted
stop_noted c is now new view thread t running refusal adds =
    noted_alone now new thread t (asks.Control commands.Stop) (acts.Control commands.Stop) (stop_is now thread t None (stopped_kept c is now view ∙ running) refusal) adds
