-- `save::save_all` meets its contract: after p turns the determined sectors of the first p positions are saved and counted.
-- Assumes nothing.
use mathlib.Core.Path.{◌≡◌, subst}
use Prim.Native.Nat.{ℕ, ◌/◌}
use native.Mathlib.Omega.{arith}
use Rattle.stripes.specs.Erased.{erasures}
use Rattle.model.specs.Grid.{layout_of}
use Rattle.model.proofs.Grid.{sector-some}
use Rattle.survivors.proofs.ByPosition.{positions-few, positioned, offset_inside, held_at}
use Rattle.save.proofs.ByPosition.{SavedTo, saved-none, saved-length, still_fits, saved-next, saved_all}
use Rattle.save.proofs.save_all.Goals as goal

pub nonzero_div-sectors : goal.nonzero_div-sectors
nonzero_div-sectors c = sector-some c.args.block c.args.sector c.requires.sectored.sector

pub loop-p-init : goal.loop-p-init
loop-p-init c = saved-none c.args.grid.numbered c.requires.sectored c.args.map.now

pub overflow_mul-stretch : goal.overflow_mul-stretch
overflow_mul-stretch c =
    let h = offset_inside c.args.grid.numbered c.requires.sectored c.args.map.now c.loop-p-test.true in
    omega arith

pub save_position-number-requires : goal.save_position-number-requires
save_position-number-requires c =
    let m = c.args.map.now in
    let place = c.loop-p-test.true in
    let numbered = c.args.grid.numbered in
    let record { sectored = held; map_value = fits; array_value = fit } = c.requires in
    let to = c.loop-p.invariant in
    record {
      held = held_at numbered held m place (saved-length numbered held m to);
      positioned = positioned numbered held m place fits;
      array_value = still_fits numbered held m to place fit;
    }

pub overflow_add-number : goal.overflow_add-number
overflow_add-number c =
    let m = c.args.map.now in
    let record { number = number; array = array } = c.save_position-number.ensures in
    let most = positions-few c.args.grid.numbered c.requires.sectored m in
    let few = (saved-next c.args.grid.numbered c.requires.sectored m c.loop-p.invariant c.loop-p-test.true array number).few in
    omega arith

pub loop-p-preserved : goal.loop-p-preserved
loop-p-preserved c =
    let record { number = number; array = array } = c.save_position-number.ensures in
    let place = c.loop-p-test.true in
    saved-next c.args.grid.numbered c.requires.sectored c.args.map.now c.loop-p.invariant place array number

pub returns : goal.returns
returns c =
    let a = c.args in
    let l = c.loop-p in
    let n = a.block / a.sector in
    let all : l.p ≡ n = omega arith in
    let (h0, h1) = saved_all c.args.grid.numbered c.requires.sectored a.map.now
    (subst
    (λ (k : ℕ). SavedTo (layout_of a.grid.size a.grid.base) n a.sector (erasures a.map.now) a.array.now k l.array l.number)
    all l.invariant) in
    record {
      number = h0;
      array = h1;
    }
