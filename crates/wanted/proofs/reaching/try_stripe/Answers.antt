-- `wanted::reaching::try_stripe` meets its contract: the side is loaded with the disk and peeled while the disk is held back.
-- Assumes nothing.
use mathlib.Core.Path.{◌≡◌, sym, ◌∙◌, ap}
use mathlib.Core.Bool.{Bool, true}
use mathlib.Core.List.{List}
use Prim.Native.Nat.{ℕ, ◌<◌}
use native.Mathlib.Omega.{arith}
use lib.ListN.{length}
use Rattle.stripes.specs.Erased.{erasures}
use Rattle.stripes.proofs.Peel.{without_sub}
use Rattle.stripes.proofs.Degree.{on-bound}
use Rattle.stripes.proofs.Erased.{past_end, is_inside}
use Rattle.stripes.specs.System.{on}
use Rattle.model.specs.Grid.{layout_of, disks, map_fits}
use Rattle.model.specs.declared.Size.{Size}
use Rattle.layout.specs.Stripe.{Numbered}
use Rattle.model.proofs.Grid.{layout-disks, map-length, disks-bound, size_fits_lem}
use Rattle.layout.proofs.Runs.{numbered_two, stripes_few}
use Rattle.solve.proofs.Memory.{map-disks}
use Rattle.entries.specs.Listed.{capacity}
use Rattle.wanted.proofs.Loaded.{side_outside}
use Rattle.wanted.proofs.Near.{sideWith}
use Rattle.wanted.proofs.Reached.{loaded_side, held-few, tried_none, tried_list}
use Rattle.wanted.proofs.reaching.try_stripe.Goals.{After-load, After-peel-made}
use Rattle.wanted.proofs.reaching.try_stripe.Goals as goal

-- The disk is one of the grid, and its stripe has a place in every table.
inside : (z : Size) (base : ℕ) (map : List ℕ) {d : ℕ} → map_fits (disks z) map ≡ true → erasures map d ≡ true → d < (layout_of z base).disks
inside z base map fits erased =
    let long = map-disks _ base _ fits in
    let l = is_inside (length map) (erasures map) (past_end map) _ erased in
    omega arith

bound : {z : Size} {base : ℕ} → Numbered z base → (map : List ℕ) (d : ℕ) {s : ℕ} → map_fits (disks z) map ≡ true → erasures map d ≡ true
    → on (layout_of z base) d s ≡ true → s < (layout_of z base).stripe_bound
bound {z} {base} n map d fits erased here = on-bound _ (numbered_two n) d (inside z base map fits erased) _ here

pub bounds-parts-stripe : goal.bounds-parts-stripe
bounds-parts-stripe c =
    let p = c.requires in
    let low = bound c.args.grid.numbered c.args.map.now c.args.disk p.map_value p.disk_value p.stripe_value in
    let fit = p.others.parted.stripes_fit in
    omega arith

pub load-requires : goal.load-requires
load-requires c =
    let o = c.requires.others in
    let room = c.requires.room.disks_fit in
    let same = c.requires.others_len in
    let long = map-disks _ c.args.grid.base _ c.requires.map_value in
    record {
      table = o.table;
      base_in_bounds = o.parted.stripes_fit;
      map_in_bounds = omega arith;
      others_in_bounds = omega arith;
      by_index = λ i h. without_sub _ c.args.disk i (sym (ap (λ (f : ℕ → Bool). f i) o.erased) ∙ h);
    }

pub tally-erased-requires : goal.tally-erased-requires
tally-erased-requires c =
    let o = c.requires.others in
    let room = c.requires.room in
    let a = room.disks_fit in
    let b = room.table_fits in
    let few = layout-disks c.args.grid.size c.args.grid.base in
    let long = map-length _ _ c.requires.map_value in
    let same = c.load.auto.work in
    record {
      size_in_bounds = omega arith;
      by_index = λ d h. side_outside (layout_of c.args.grid.size c.args.grid.base) c.args.map.now c.args.others.now c.args.parts.now _ c.args.disk o.erased _ c.load.ensures d (omega arith);
      work_in_bounds = omega arith;
      stripe_limit_in_bounds = room.stripes_fit;
    }

-- The stripe has a place in the counts.
counted : (c : goal.After-peel-made) → c.args.stripe < length c.peel-made.new.counts
counted c =
    let p = c.requires in
    let peeled = c.peel-made.auto.counts in
    let before = c.tally-erased.auto.counts in
    let room = p.room.stripes_fit in
    let most = stripes_few c.args.grid.numbered in
    let low = bound c.args.grid.numbered c.args.map.now c.args.disk p.map_value p.disk_value p.stripe_value in
    omega arith

-- There are few enough repairs for one more.
few : (c : goal.After-peel-made) → c.peel-made.result < capacity
few c = held-few _ _ c.args.grid.numbered c.args.disk _ c.peel-made.ensures.number

-- The side with the disk was loaded.
side : (c : goal.After-load) →
    let a = c.args in
    erasures c.load.new.work ≡ sideWith (layout_of a.grid.size a.grid.base) (numbered_two c.args.grid.numbered) (erasures a.map.now) a.disk a.stripe c.requires.disk_value
side c =
    let a = c.args in
    let p = c.requires in
    let long = map-disks _ a.grid.base _ p.map_value in
    loaded_side (numbered_two c.args.grid.numbered) p.disk_value (λ i h. past_end a.map.now i (omega arith)) p.others a.stripe
    (bound c.args.grid.numbered c.args.map.now c.args.disk p.map_value p.disk_value p.stripe_value) _ c.load.ensures

pub bounds-counts-stripe : goal.bounds-counts-stripe
bounds-counts-stripe c = counted (goal.at.bounds-counts-stripe c).After-peel-made

pub returns-then-counts-stripe-ne1 : goal.returns-then-counts-stripe-ne1
returns-then-counts-stripe-ne1 c =
    let p = c.requires in
    let e = c.peel-made.ensures in
    tried_none (numbered_two c.args.grid.numbered) (erasures c.args.map.now) c.args.disk p.disk_value
    (inside c.args.grid.size c.args.grid.base c.args.map.now p.map_value p.disk_value) c.args.stripe p.stripe_value
    _ (side (goal.at.returns-then-counts-stripe-ne1 c).After-load) _ _ (e.number, (e.left, (e.list, e.tallied)))
    (counted (goal.at.returns-then-counts-stripe-ne1 c).After-peel-made) c.if-counts-stripe-ne1.true

-- So there is room for the disk, and it fits a word with its stripe.
placed : (c : goal.After-peel-made) → (c.peel-made.result < length c.peel-made.new.list) × ((c.args.disk < 65536) × (c.args.stripe < 65536))
placed c =
    let p = c.requires in
    let less = few c in
    let room = p.room.list_fits in
    let same = c.peel-made.auto.list in
    let most = stripes_few c.args.grid.numbered in
    let low = bound c.args.grid.numbered c.args.map.now c.args.disk p.map_value p.disk_value p.stripe_value in
    let here = inside c.args.grid.size c.args.grid.base c.args.map.now p.map_value p.disk_value in
    let disks = disks-bound c.args.grid.size (size_fits_lem c.args.grid.size c.args.grid.numbered.fits) in
    let all = layout-disks c.args.grid.size c.args.grid.base in
    (omega arith, (omega arith, omega arith))

pub put-requires : goal.put-requires
put-requires c =
    let (room, (low, high)) = placed (goal.at.put-requires c).After-peel-made in
    record { k_in_bounds = room; disk_bound = low; stripe_bound = high }

pub overflow_add-result : goal.overflow_add-result
overflow_add-result c = let less = few (goal.at.overflow_add-result c).After-peel-made in omega arith

pub returns : goal.returns
returns c =
    let p = c.requires in
    let e = c.peel-made.ensures in
    let (room, (low, high)) = placed (goal.at.returns c).After-peel-made in
    tried_list (numbered_two c.args.grid.numbered) (erasures c.args.map.now) c.args.disk p.disk_value
    (inside c.args.grid.size c.args.grid.base c.args.map.now p.map_value p.disk_value) c.args.stripe p.stripe_value
    _ (side (goal.at.returns c).After-load) _ _ (e.number, (e.left, (e.list, e.tallied)))
    (counted (goal.at.returns c).After-peel-made) c.if-counts-stripe-ne1.false room low high c.put.ensures
