use Rattle.std.specs.Prelude.{◌≡◌, replicate}
use Rattle.std.proofs.Common.{arith, rules}
use Rattle.ld_pool.specs.declared.user.User.TheVariants.{Free}
use Rattle.ld_pool.proofs.KeptLemmas.{kept-new}
use Rattle.ld_pool.proofs.pool.Pool.new.Goals as goal

pub invariant_of-result : goal.invariant_of-result
invariant_of-result c =
    let all : c.resize.new.self.items ≡ replicate c.args.made Free =
    search (rules, c.in_ok-resize.ensures.items, c.in_ok-users.ensures.items, c.in_ok-users.ensures.len) in
    kept-new _ _ _ _ _ _ c.requires.within c.requires.few
    (omega (arith, c.in_ok-users.ensures, c.resize.ensures, c.in_ok-resize.ensures)) all c.in_ok-free.ensures c.in_ok-untils.ensures.none
