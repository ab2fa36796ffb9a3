use Rattle.std.proofs.Common.{◌≡◌, ◌∙◌, sym, rules}
use Rattle.ld_course.specs.Course.{course_of}
use Rattle.ld_course.proofs.FirstLemmas.{any_release_tells, any_start_tells, close_tells, drop_tells, none_due, none_starts, nothing_tells, take_one_tells}
use Rattle.ld_iters.proofs.SharedLemmas.{chosen_shown, shared_no_arrivals, shared_slots, shared_until}
use Rattle.ld_machine.specs.Plan.{hard_moment}
use Rattle.ld_iters.proofs.shared_iters.SharedIters.next_act.Goals as goal

pub returns-in-Some : goal.returns-in-Some
returns-in-Some c = record {
  first = λ s shows n users free.
      any_release_tells n users s c.args.reading c.args.prefer c.in-Some.user (chosen_shown c.args.self.now s shows c.args.prefer ∙ c.in-Some.ensures.some)
      (λ slot. c.in-Some.ensures.may s slot shows);
}

pub returns-in-Some-to_take : goal.returns-in-Some-to_take
returns-in-Some-to_take c = record {
  first = λ s shows n users free.
      take_one_tells n users s c.args.reading c.args.prefer (c.in_default.ensures.none s n shows) c.in-Some-to_take.slot
      (shared_slots c.args.self.now s shows ∙ (search rules)) (c.in-Some-to_take.ensures.may s shows) (free ∙ c.in-Some-to_take.ensures.some.0);
}

pub returns-in-Some-to_start : goal.returns-in-Some-to_start
returns-in-Some-to_start c = record {
  first = λ s shows n users free.
      let course : c.self.inside.course ≡ course_of s = search rules in
      let lasts : hard_moment s.part ≡ c.hard_moment.result = sym (c.hard_moment.ensures s course) in
      any_start_tells n users s c.args.reading c.args.prefer (shared_no_arrivals c.args.self.now s shows) (c.in_default.ensures.none s n shows)
      (c.in_default-to_take.ensures.none s n users shows free) c.in-Some-to_start.user c.in-Some-to_start.item c.hard_moment.result c.args.reading
      (chosen_shown c.args.self.now s shows c.args.prefer ∙ c.in-Some-to_start.ensures.some) (λ slot. c.in-Some-to_start.ensures.may s slot shows)
      (λ slot. shared_until c.args.self.now s shows slot c.args.reading ∙ lasts);
}

pub returns-in-Some-to_drop : goal.returns-in-Some-to_drop
returns-in-Some-to_drop c = record {
  first = λ s shows n users free.
      drop_tells n users s c.args.reading c.args.prefer (shared_no_arrivals c.args.self.now s shows) (c.in_default.ensures.none s n shows)
      (c.in_default-to_take.ensures.none s n users shows free)
      (none_starts n users s c.args.reading c.args.prefer (c.in_default-to_start.ensures.none s n shows)) c.in-Some-to_drop.item c.args.reading
      (sym (c.in-Some-to_drop.ensures s shows));
}

pub returns-then-may_close : goal.returns-then-may_close
returns-then-may_close c = record {
  first = λ s shows n users free.
      close_tells n users s c.args.reading c.args.prefer (c.in_default.ensures.none s n shows) (c.in_default-to_take.ensures.none s n users shows free)
      (none_due s c.args.reading (shared_no_arrivals c.args.self.now s shows))
      (none_starts n users s c.args.reading c.args.prefer (c.in_default-to_start.ensures.none s n shows)) (sym (c.in_default-to_drop.ensures s shows))
      (sym (c.may_close.ensures s shows) ∙ c.if-may_close.true);
}

pub returns-else-may_close : goal.returns-else-may_close
returns-else-may_close c = record {
  first = λ s shows n users free.
      nothing_tells n users s c.args.reading c.args.prefer (c.in_default.ensures.none s n shows) (c.in_default-to_take.ensures.none s n users shows free)
      (none_due s c.args.reading (shared_no_arrivals c.args.self.now s shows))
      (none_starts n users s c.args.reading c.args.prefer (c.in_default-to_start.ensures.none s n shows)) (sym (c.in_default-to_drop.ensures s shows))
      (sym (c.may_close.ensures s shows) ∙ c.if-may_close.false);
}
