-- Which scenario of the machine a state shows: what the state keeps is what it keeps of that scenario.
use Rattle.std.specs.Prelude.{◌≡◌, ◌≤◌, ℕ, true, List, IsTrue, map, filter}
use Rattle.ld_base.specs.declared.act.Act.{Act}
use Rattle.ld_course.specs.Course.{course_of}
use Rattle.ld_machine.specs.Plan.{Arrival, Executor, ArrivalRate, Part, owned_items}
use Rattle.ld_machine.specs.State as machine
use Rattle.ld_machine.specs.Scenario.{Scenario, is_open_item, executor_arrivals, executor_max_vus}
use Rattle.ld_machine.specs.Settled.{is_distinct}
use Rattle.ld_machine.specs.ShareEffect.{share_after}
use Rattle.ld_machine.specs.Together.{holds}
use Rattle.ld_machine.specs.Told.{IsHeldInOrder, MayBeTold, users_fit}
use Rattle.ld_machine.specs.Wishes.{has_arrivals}
use Rattle.ld_rates.specs.declared.rates_part.RatesPart.{RatesPart}
use Rattle.ld_rates.specs.RatesView.{RatesView}

-- ---- what is kept of a scenario: of its users only which are idle and how many there are; nothing of the
-- items that ended, and of what concerns other executors

-- an arrival's item, and its moment
abbrev pub kept_pair : Arrival → ℕ × ℕ
kept_pair a = (a.item, a.moment)

-- how many users an arrival scenario takes at its begin
abbrev pub pre_allocated_of : Executor → ℕ
pre_allocated_of (ArrivalRate pre_allocated _ _) = pre_allocated
pre_allocated_of _ = 0

-- the open arrivals, in order
abbrev pub open_arrivals : Scenario → List Arrival
open_arrivals s = filter (λ (a : Arrival). is_open_item s a.item) (executor_arrivals s.part.executor)

abbrev pub kept_of : Scenario → RatesView
kept_of s =
    record {
      course = course_of s;
      pre = pre_allocated_of s.part.executor;
      max = executor_max_vus s.part.executor;
      waiting = map kept_pair (open_arrivals s);
      idle = map (λ (h : machine.HeldUser). h.user) (machine.idle_users s.share);
      held = machine.held_count s.share;
    }

-- ---- which scenario a state shows

-- the state shows the scenario: it is what is kept of it; the scenario has arrivals, whose items are
-- distinct, and takes no more users at its begin than it may hold; and the users that it holds stand in
-- order of their numbers, each once, which are at most 1,000
pub record Shows (state : RatesView) (s : Scenario) : Type 0 where
  pub kept : state ≡ kept_of s
  pub rates : IsTrue (has_arrivals s.part.executor)
  pub distinct : IsTrue (is_distinct (owned_items s.part.executor))
  pub fits : IsTrue (users_fit s.part.executor)
  pub order : IsHeldInOrder s
  pub few : (user : ℕ) → holds user s.share ≡ true → user ≤ 1000

-- an arrival of a ticker
abbrev pub arrival_of : ℕ × ℕ → Arrival
arrival_of pair = record { item = pair.0; moment = pair.1 }

-- an instance's part is a part of the machine's plan
pub record IsPart (part : RatesPart) (planned : Part) : Type 0 where
  pub begin : planned.begin ≡ part.begin
  pub end : planned.end ≡ part.end
  pub grace : planned.grace ≡ part.grace
  pub executor : planned.executor ≡ ArrivalRate part.pre part.max (map arrival_of part.ticker)

-- the state shows every scenario that is at its opening and has this part, with distinct items
abbrev pub ShowsOpening : RatesPart → RatesView → Type 0
ShowsOpening part state =
    (s : Scenario) → s.share ≡ machine.opening_share → IsPart part s.part → IsTrue (is_distinct (owned_items s.part.executor)) → Shows state s

-- whichever scenario the old state shows: where that may be told of the act, the new state shows what the
-- act, by any thread, makes of it
abbrev pub Follows : RatesView → RatesView → Act → ℕ → Type 0
Follows old new act reading =
    (s : Scenario) (thread : ℕ) → Shows old s → MayBeTold s act → Shows new (record s { share = share_after s.part thread reading act s.share })
