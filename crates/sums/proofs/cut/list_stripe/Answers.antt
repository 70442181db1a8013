-- `sums::cut::list_stripe` meets its contract: those of the disks so far that are to be listed stand behind what was there.
-- Assumes nothing.
use mathlib.Core.Path.{◌≡◌, ◌∙◌, sym, refl, ap}
use mathlib.Core.Bool.{true, not, ◌&&◌}
use Prim.Native.Nat.{ℕ, ◌<◌}
use native.Mathlib.Omega.{arith}
use borrow.Author.Tests.{eq-eqb, ne_eqb, not-true}
use lib.ListN.{length, length-set}
use Rattle.stripes.specs.System.{other_than}
use Rattle.stripes.specs.Erased.{erasures}
use Rattle.stripes.proofs.Fold.{and_left}
use Rattle.model.specs.Grid.{layout_of}
use Rattle.model.proofs.Grid.{layout-disks, disks-bound, size_fits_lem}
use Rattle.layout.specs.Stripe.{run_disk}
use Rattle.sums.specs.Cut.{in_part, in_cut}
use Rattle.sums.proofs.Cuts.{behind-none, behind_skip, behind-next, Along, run_along}
use Rattle.sums.proofs.Cuts.{stripe-none, stripe-room, stripe_all, outside_none, empty_none}
use Rattle.sums.proofs.cut.list_stripe.Goals.{After-disks_on-run, After-leaves, After-other_at-other, In-loop-k, then-leaves, else-leaves}
use Rattle.sums.proofs.cut.list_stripe.Goals as goal

-- The run of a stripe in the part.
known : (c : goal.After-disks_on-run)
    → let a = c.args in
    Along a.grid.size a.grid.base (erasures a.map.now) (in_part a.parts.now a.name) a.stripe c.disks_on-run.result
known c =
    let a = c.args in
    run_along a.grid.size a.grid.base _ _ a.stripe c.args.grid.numbered (eq-eqb _ _ c.if-parts-stripe.false)
    (sym c.has_disks.ensures ∙ c.if-not-has_disks.false) c.disks_on-run.result c.disks_on-run.ensures

-- A disk of it has a small number.
small : (c : goal.In-loop-k)
    → let a = c.args in
    Along a.grid.size a.grid.base (erasures a.map.now) (in_part a.parts.now a.name) a.stripe c.disks_on-run.result
    → run_disk c.disks_on-run.result c.loop-k.k < 256
small c r =
    let inside = r.disk c.loop-k.k c.loop-k-test.true in
    let few = disks-bound c.args.grid.size (size_fits_lem c.args.grid.size c.args.grid.numbered.fits) in
    let same = layout-disks c.args.grid.size c.args.grid.base in
    omega arith

-- The other stripe of the disk, and whether the disk is listed.
other-is : (c : goal.After-other_at-other)
    → let a = c.args in
    c.other_at-other.result
    ≡ other_than a.stripe ((layout_of a.grid.size a.grid.base).through (run_disk c.disks_on-run.result c.loop-k.k))
other-is c = rw c.disks_on-run.ensures c.other_at-other.ensures

test-is : (c : goal.After-leaves)
    → let a = c.args in
    Along a.grid.size a.grid.base (erasures a.map.now) (in_part a.parts.now a.name) a.stripe c.disks_on-run.result
    → c.leaves.result
    ≡ in_cut (layout_of a.grid.size a.grid.base) (erasures a.map.now) (in_part a.parts.now a.name)
    (run_disk c.disks_on-run.result c.loop-k.k)
test-is c r =
    let a = c.args in
    let d = run_disk c.disks_on-run.result c.loop-k.k in
    c.leaves.ensures
    ∙ ap (λ (o : ℕ). not (erasures a.map.now d) && not (in_part a.parts.now a.name o))
    (rw c.disks_on-run.ensures c.other_at-other.ensures)
    ∙ r.test c.loop-k.k c.loop-k-test.true

-- Where it is, there is room for it.
room : (c : goal.After-leaves)
    → let a = c.args in
    Along a.grid.size a.grid.base (erasures a.map.now) (in_part a.parts.now a.name) a.stripe c.disks_on-run.result
    → c.leaves.result ≡ true → c.loop-k.n < length c.loop-k.list
room c r listed =
    let a = c.args in
    let l = c.loop-k in
    stripe-room a.grid.size a.grid.base (erasures a.map.now) (in_part a.parts.now a.name) a.stripe a.list.now a.have
    c.disks_on-run.result r l.k l.list l.n l.invariant.1
    (length l.list) (rw l.invariant.0 c.requires.stripe_in_bounds) c.loop-k-test.true (sym (test-is c r) ∙ listed)

pub returns-then-parts-stripe : goal.returns-then-parts-stripe
returns-then-parts-stripe c =
    let a = c.args in
    let part = in_part a.parts.now a.name in
    stripe-none a.grid.size a.grid.base (erasures a.map.now) part a.stripe a.list.now a.have c.requires.survivors
    (outside_none a.grid.size a.grid.base (erasures a.map.now) part a.stripe (ne_eqb _ _ c.if-parts-stripe.true))

pub returns-then-not-has_disks : goal.returns-then-not-has_disks
returns-then-not-has_disks c =
    let a = c.args in
    let part = in_part a.parts.now a.name in
    stripe-none a.grid.size a.grid.base (erasures a.map.now) part a.stripe a.list.now a.have c.requires.survivors
    (empty_none a.grid.size a.grid.base (erasures a.map.now) part a.stripe (sym c.has_disks.ensures ∙ c.if-not-has_disks.true))

pub loop-k-init : goal.loop-k-init
loop-k-init c =
    let a = c.args in
    let L = layout_of a.grid.size a.grid.base in
    let e = erasures a.map.now in
    let t = in_cut L e (in_part a.parts.now a.name) in
    (refl, behind-none L e a.list.now a.have t (run_disk c.disks_on-run.result) c.requires.survivors)

pub overflow_mul-disk : goal.overflow_mul-disk
overflow_mul-disk c =
    let h = small (goal.at.overflow_mul-disk c).In-loop-k (known (goal.at.overflow_mul-disk c).After-disks_on-run) in
    omega arith

pub overflow_add-disk : goal.overflow_add-disk
overflow_add-disk c =
    let h = small (goal.at.overflow_add-disk c).In-loop-k (known (goal.at.overflow_add-disk c).After-disks_on-run) in
    omega arith

pub leaves-requires : goal.leaves-requires
leaves-requires c =
    let r = known (goal.at.leaves-requires c).After-disks_on-run in
    let inside = r.disk c.loop-k.k c.loop-k-test.true in
    let other = r.other c.loop-k.k c.loop-k-test.true in
    let is = other-is (goal.at.leaves-requires c).After-other_at-other in
    let long = c.requires.size_in_bounds in
    let same = layout-disks c.args.grid.size c.args.grid.base in
    record {
      disk_in_bounds = omega arith;
      other_in_bounds = omega arith;
    }

pub overflow_cast-list : goal.overflow_cast-list
overflow_cast-list c =
    let h = small (goal.at.overflow_cast-list c).In-loop-k (known (goal.at.overflow_cast-list c).After-disks_on-run) in
    omega arith

pub offset_bounds-list-n : goal.offset_bounds-list-n
offset_bounds-list-n c =
    let h = room (goal.at.offset_bounds-list-n c).After-leaves (known (goal.at.offset_bounds-list-n c).After-disks_on-run) c.if-leaves.true in
    omega arith

pub bounds-list-n : goal.bounds-list-n
bounds-list-n c =
    room (goal.at.bounds-list-n c).After-leaves (known (goal.at.bounds-list-n c).After-disks_on-run) c.if-leaves.true

pub overflow_add-n : goal.overflow_add-n
overflow_add-n c =
    let h = room (goal.at.overflow_add-n c).After-leaves (known (goal.at.overflow_add-n c).After-disks_on-run) c.if-leaves.true in
    omega arith

pub loop-k-preserved : goal.loop-k-preserved
loop-k-preserved c =
    let a = c.args in
    let l = c.loop-k in
    let at = run_disk c.disks_on-run.result in
    let L = layout_of a.grid.size a.grid.base in
    let e = erasures a.map.now in
    let t = in_cut L e (in_part a.parts.now a.name) in
    let r = known (goal.at.loop-k-preserved c).After-disks_on-run in
    let test : c.leaves.result ≡ t (at l.k) = test-is (goal.at.loop-k-preserved c).After-leaves r in (
      elim c.if-leaves.branch [
        | then-leaves w ↦ ap length w.list-is ∙ simp length-set l.invariant.0
        | else-leaves w ↦ ap length w.list-is ∙ l.invariant.0
      ],
      elim c.if-leaves.branch [
        | then-leaves w ↦
            rw (w.list-is, w.n-is)
            (behind-next L e a.list.now a.have t at l.k l.list l.n l.invariant.1 (sym test ∙ w.if-leaves.true)
            (room (goal.at.loop-k-preserved c).After-leaves r w.if-leaves.true) (r.disk l.k c.loop-k-test.true)
            (not-true _ (and_left (not (e (at l.k))) _ (sym test ∙ w.if-leaves.true))))
        | else-leaves w ↦
            rw (w.list-is, w.n-is) (behind_skip L e a.list.now a.have t at l.k l.list l.n l.invariant.1 (sym test ∙ w.if-leaves.false))
      ],
    )

pub returns : goal.returns
returns c =
    let a = c.args in
    let l = c.loop-k in
    stripe_all a.grid.size a.grid.base (erasures a.map.now) (in_part a.parts.now a.name) a.stripe a.list.now a.have
    c.disks_on-run.result (known (goal.at.returns c).After-disks_on-run) l.k l.list l.n l.invariant.1 (omega arith)
