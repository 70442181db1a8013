-- `rebuild::turn::make` meets its contract, at each of its two ends.
-- Assumes nothing.
use mathlib.Core.Path.{◌∙◌, sym, ap}
use mathlib.Core.Bool.{not}
use native.Mathlib.Omega.{arith}
use Rattle.stripes.specs.System.{whole}
use Rattle.stripes.specs.Erased.{erasures}
use Rattle.rebuild.proofs.Made.{nothing_tested, all_tested, made_array}
use Rattle.rebuild.proofs.turn.make.Goals as goal

pub returns-then-made-count : goal.returns-then-made-count
returns-then-made-count c =
    let a = c.args in
    let long = c.requires.made_value in
    let most = c.requires.made_le_count in
    let all = c.requires.count_value in
    let less = c.if-made-count.true in
    record {
      answer = sym (ap not (nothing_tested _ a.map.now _ c.requires.peels (whole a.sector) a.array.now (omega arith)));
      array = c.repair_positions.ensures;
    }

pub returns : goal.returns
returns c =
    let a = c.args in
    let record { answer = answer; array = array } = c.restore.ensures in
    let long = c.requires.made_value in
    let most = c.requires.made_le_count in
    let all = c.requires.count_value in
    let none = c.if-made-count.false in
    record {
      answer = answer ∙ sym (all_tested _ a.map.now _ c.requires.peels (whole a.sector) a.array.now (omega arith));
      array = made_array _ (whole a.sector) a.array.now (erasures a.map.now) _ _ _ answer array;
    }
