-- The executor of each kind is read by a function of its own.
use Rattle.ld_options.proofs.member.executor.Goals as goal

pub returns-in-SharedIterations-clause-accepted : goal.returns-in-SharedIterations-clause-accepted
returns-in-SharedIterations-clause-accepted c = rw c.in-SharedIterations.is c.shared_iterations.ensures.accepted

pub returns-in-PerVuIterations-clause-accepted : goal.returns-in-PerVuIterations-clause-accepted
returns-in-PerVuIterations-clause-accepted c = rw c.in-PerVuIterations.is c.iterations_per_user.ensures.accepted

pub returns-in-PerVuIterations-clause-refused : goal.returns-in-PerVuIterations-clause-refused
returns-in-PerVuIterations-clause-refused c = rw c.in-PerVuIterations.is c.iterations_per_user.ensures.refused

pub returns-in-ConstantVus-clause-accepted : goal.returns-in-ConstantVus-clause-accepted
returns-in-ConstantVus-clause-accepted c = rw c.in-ConstantVus.is c.constant_users.ensures.accepted

pub returns-in-ConstantArrivals-clause-accepted : goal.returns-in-ConstantArrivals-clause-accepted
returns-in-ConstantArrivals-clause-accepted c = rw c.in-ConstantArrivals.is c.constant_arrivals.ensures.accepted

pub returns-in-ConstantArrivals-clause-refused : goal.returns-in-ConstantArrivals-clause-refused
returns-in-ConstantArrivals-clause-refused c = rw c.in-ConstantArrivals.is c.constant_arrivals.ensures.refused

pub returns-in-RampingArrivals-clause-accepted : goal.returns-in-RampingArrivals-clause-accepted
returns-in-RampingArrivals-clause-accepted c = rw c.in-RampingArrivals.is c.ramping_arrivals.ensures.accepted

pub returns-in-RampingArrivals-clause-refused : goal.returns-in-RampingArrivals-clause-refused
returns-in-RampingArrivals-clause-refused c = rw c.in-RampingArrivals.is c.ramping_arrivals.ensures.refused
