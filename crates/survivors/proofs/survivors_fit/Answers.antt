-- `survivors::survivors_fit` meets its contract: the loop tests each stripe that names its part.
-- Assumes nothing.
use mathlib.Core.Path.{◌≡◌, subst}
use Prim.Native.Nat.{ℕ}
use native.Mathlib.Omega.{arith}
use borrow.Author.Rules.{rules}
use Rattle.stripes.specs.Erased.{erasures}
use Rattle.model.specs.Grid.{layout_of}
use Rattle.model.proofs.Grid.{layout-disks, layout-two, disks-bound, size_fits_lem}
use Rattle.layout.proofs.Runs.{stripes_few}
use Rattle.survivors.proofs.Judged.{Passing, passing_next, all_pass, one_fails}
use Rattle.survivors.proofs.survivors_fit.Goals as goal

pub join_all-requires : goal.join_all-requires
join_all-requires c =
    let few = stripes_few c.args.grid.numbered in
    record {
      table = c.requires.table;
      base_in_bounds = omega arith;
    }

pub part_fits-requires : goal.part_fits-requires
part_fits-requires c =
    let parted = c.join_all.ensures in
    let fits = parted.stripes_fit in
    let is = c.bound-s-end.ensures in
    let h = c.loop-s-test.true in
    let table = c.requires.table.disks_fit in
    let same = layout-disks c.args.grid.size c.args.grid.base in
    let most = disks-bound c.args.grid.size (size_fits_lem c.args.grid.size c.args.grid.numbered.fits) in
    let long = c.loop-s.invariant.1 in
    record {
      held = c.requires.held;
      size_in_bounds = omega arith;
      base_in_bounds = fits;
      stripe_in_bounds = omega arith;
      size_in_bounds_2 = omega arith;
    }

pub returns-then-not-part_fits : goal.returns-then-not-part_fits
returns-then-not-part_fits c =
    let is = c.bound-s-end.ensures in
    let h = c.loop-s-test.true in
    one_fails (layout-two c.args.grid.size c.args.grid.base c.args.grid.numbered.above) c.args.stretch c.join_all.ensures c.args.array.now
    c.loop-s.s (omega arith) c.part_fits.ensures (c.if-not-part_fits.true)

pub loop-s-preserved : goal.loop-s-preserved
loop-s-preserved c =
    let is = c.bound-s-end.ensures in
    let h = c.loop-s-test.true in (
      passing_next (layout-two c.args.grid.size c.args.grid.base c.args.grid.numbered.above) c.args.stretch c.join_all.ensures c.args.array.now
          c.loop-s.s (omega arith) c.loop-s.invariant.0 c.part_fits.ensures (c.if-not-part_fits.false),
      search rules,
    )

pub returns : goal.returns
returns c =
    let is = c.bound-s-end.ensures in
    let L = layout_of c.args.grid.size c.args.grid.base in
    let end : c.loop-s.s ≡ L.stripe_bound = omega arith in
    all_pass (layout-two c.args.grid.size c.args.grid.base c.args.grid.numbered.above) c.args.stretch c.join_all.ensures c.args.array.now
    (subst (λ (k : ℕ). Passing L c.args.stretch (erasures c.args.work.now) c.args.array.now c.join_all.new.parts k) end c.loop-s.invariant.0)
