-- Which scenario of the machine a state of shared iterations shows.
use Rattle.std.specs.Prelude.{◌≡◌, ◌≤◌, ℕ, Bool, true, false, List, IsTrue, map}
use Rattle.std.specs.List.Sorted.{IsStrictlyIncreasing}
use Rattle.ld_base.specs.declared.act.Act.{Act}
use Rattle.ld_course.specs.Course.{course_of}
use Rattle.ld_course.specs.declared.course.Course.{Course}
use Rattle.ld_iters.specs.ItersPart.{IsPart}
use Rattle.ld_iters.specs.declared.iters_part.ItersPart.{ItersPart}
use Rattle.ld_machine.specs.Plan.{Executor, SharedIterations, owned_items}
use Rattle.ld_machine.specs.Scenario.{Scenario, open_items}
use Rattle.ld_machine.specs.ShareEffect.{share_after}
use Rattle.ld_machine.specs.State.{HeldUser, held_count, idle_users, opening_share}
use Rattle.ld_machine.specs.Together.{holds}
use Rattle.ld_machine.specs.Told.{IsHeldInOrder, MayBeTold}

-- what is kept of a scenario of shared iterations: its course, how many users it may hold, its open items in order, the
-- numbers of those of its users that are idle, rising, and how many users it holds
pub record SharedView : Type 0 where
  pub course : Course
  pub users : ℕ
  pub left : List ℕ
  pub idle : List ℕ
  pub held : ℕ

-- how many users an executor shares its iterations among
abbrev pub sharers_of : Executor → ℕ
sharers_of (SharedIterations users _) = users
sharers_of _ = 0

-- all users of the executor share one number of iterations
abbrev pub is_shared : Executor → Bool
is_shared (SharedIterations _ _) = true
is_shared _ = false

abbrev pub kept_of : Scenario → SharedView
kept_of s =
    record {
      course = course_of s;
      users = sharers_of s.part.executor;
      left = open_items s;
      idle = map (λ (h : HeldUser). h.user) (idle_users s.share);
      held = held_count s.share;
    }

-- the state shows the scenario: it is what is kept of it; the scenario's users share its items, which rise; and the users
-- that it holds stand in order of their numbers, each once, which are at most 1,000
pub record Shows (state : SharedView) (s : Scenario) : Type 0 where
  pub kept : state ≡ kept_of s
  pub shared : IsTrue (is_shared s.part.executor)
  pub items : IsStrictlyIncreasing (owned_items s.part.executor)
  pub order : IsHeldInOrder s
  pub few : (user : ℕ) → holds user s.share ≡ true → user ≤ 1000

-- the state shows every scenario that is at its opening and has this part
abbrev pub ShowsOpening : ItersPart → SharedView → Type 0
ShowsOpening part state = (s : Scenario) → s.share ≡ opening_share → IsPart part s.part → Shows state s

-- whichever scenario the old state shows: where that may be told of the act, the new state shows what the act, by any
-- thread, makes of it
abbrev pub Follows : SharedView → SharedView → Act → ℕ → Type 0
Follows old new act reading =
    (s : Scenario) (thread : ℕ) → Shows old s → MayBeTold s act → Shows new (record s { share = share_after s.part thread reading act s.share })
