-- `sums::cut::list_cut` meets its contract: the survivors that the stripes so far bring are listed.
-- Assumes nothing.
use mathlib.Core.Path.{◌≡◌, refl}
use Prim.Native.Nat.{◌<◌}
use native.Mathlib.Omega.{arith}
use borrow.Author.Rules.{rules}
use lib.ListN.{length}
use Rattle.stripes.specs.Erased.{erasures}
use Rattle.model.specs.Grid.{layout_of}
use Rattle.model.proofs.Grid.{layout-disks}
use Rattle.layout.proofs.Runs.{numbered_two}
use Rattle.sums.specs.Cut.{in_part}
use Rattle.sums.proofs.Cuts.{cut-none, cut-next, cut-room, cut_all}
use Rattle.sums.proofs.cut.list_cut.Goals as goal

pub loop-s-init : goal.loop-s-init
loop-s-init c =
    let a = c.args in
    (refl, cut-none (layout_of a.grid.size a.grid.base) (erasures a.map.now) (in_part a.parts.now a.name) a.list.now)

pub list_stripe-n-requires : goal.list_stripe-n-requires
list_stripe-n-requires c =
    let a = c.args in
    let l = c.loop-s in
    let L = layout_of a.grid.size a.grid.base in
    let end = c.bound-s-end.ensures in
    let below : l.s < L.stripe_bound = omega arith in
    let part = in_part a.parts.now a.name in
    let room = cut-room L (erasures a.map.now) part (numbered_two c.args.grid.numbered) l.s l.n below l.invariant.1.few in
    let same = layout-disks a.grid.size a.grid.base in
    record {
      size_in_bounds = c.requires.size_in_bounds;
      base_in_bounds = c.requires.base_in_bounds;
      stripe_bound = below;
      survivors = l.invariant.1.survivors;
      stripe_in_bounds = omega arith;
    }

pub loop-s-preserved : goal.loop-s-preserved
loop-s-preserved c =
    let a = c.args in
    let l = c.loop-s in
    let more = c.list_stripe-n in (
      search rules,
      cut-next (layout_of a.grid.size a.grid.base) (erasures a.map.now) (in_part a.parts.now a.name) l.s l.list
          more.new.list l.n more.result l.invariant.1 more.ensures,
    )

pub returns : goal.returns
returns c =
    let a = c.args in
    let l = c.loop-s in
    let L = layout_of a.grid.size a.grid.base in
    let end : l.s ≡ L.stripe_bound = let b = c.bound-s-end.ensures in omega arith in
    let same = layout-disks a.grid.size a.grid.base in
    cut_all L (erasures a.map.now) (in_part a.parts.now a.name) (numbered_two c.args.grid.numbered) l.list l.n (length l.list)
    (rw end at l.invariant.1) (omega arith)
