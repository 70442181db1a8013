-- The contents of an erased sector count for nothing: arrays that agree on the survivors get the same answers, maps and
-- sheets, and agree on the survivors that there are then.
-- Assumes nothing.
use mathlib.Core.Path.{◌≡◌, refl, ◌∙◌, ap}
use mathlib.Core.Bool.{Bool, true, false, cond, not}
use mathlib.Core.List.{List}
use Prim.Native.Nat.{ℕ, ◌*◌, ◌<◌}
use borrow.Author.Tests.{eqb-true}
use lib.ListN.{length}
use Rattle.stripes.specs.Fold.{count}
use Rattle.stripes.specs.System.{Layout, whole, consistent}
use Rattle.stripes.specs.Erased.{erasures, Agree}
use Rattle.stripes.specs.Repair.{Entry, Peels, map_after, fatal, rebuilt, zeroed}
use Rattle.stripes.specs.Sectors.{sectored}
use Rattle.model.specs.Sheet.{Format}
use Rattle.model.specs.Turn.{Turn, clear, loss_told, contradiction, repairs_made, turn_repairs, contradicts, turn_of, whole_rebuild}
use Rattle.stripes.proofs.Fold.{count-zero-none}
use Rattle.stripes.proofs.Bytes.{whole-inside, whole_equal}
use Rattle.stripes.proofs.Restore.{zeroed-whole, agree_rebuilt, length-rebuilt}
use Rattle.stripes.proofs.Split.{erasures-after}
use Rattle.stripes.proofs.Positions.{order_peels}
use Rattle.model.proofs.Turns.{first_peels, all_clear}

module _ (n : ℕ) (L : Layout) (f : Format) (w : ℕ) (some : 0 < w) (a b m : List ℕ) (sized : length a ≡ (sectored n L).disks * (whole w).block)
    (long : length b ≡ length a) (same : Agree (sectored n L) (whole w) (erasures m) a b) where
  zeros : zeroed (whole w) b (erasures m) ≡ zeroed (whole w) a (erasures m)
  zeros = zeroed-whole (sectored n L) w some (erasures m) a b sized long same

  -- Repairs make them agree on what they bring back, and if they clear the map, they make them the same.
  module _ (v : List Entry) (peels : Peels (sectored n L) (erasures m) v) where
    agree : Agree (sectored n L) (whole w) (erasures (map_after m v)) (rebuilt (sectored n L) (whole w) a v)
        (rebuilt (sectored n L) (whole w) b v)
    agree =
        rw (erasures-after m v)
        (agree_rebuilt (sectored n L) (whole w) (whole-inside w) (erasures m) a b sized (long ∙ sized) v peels same)

    same-cleared : count (sectored n L).disks (erasures (map_after m v)) ≡ 0
        → rebuilt (sectored n L) (whole w) a v ≡ rebuilt (sectored n L) (whole w) b v
    unfolding whole
    same-cleared done =
        whole_equal (sectored n L).disks w _ _ (length-rebuilt (sectored n L) (whole w) a v ∙ sized)
        (length-rebuilt (sectored n L) (whole w) b v ∙ long ∙ sized)
        (λ d p l h. agree d l (count-zero-none (sectored n L).disks (erasures (map_after m v)) done d l) p h)

  -- A rebuild without turns.
  pub same_whole : fatal (sectored n L) (erasures m) ≡ false → whole_rebuild n L f (whole w) b m ≡ whole_rebuild n L f (whole w) a m
  unfolding whole_rebuild contradiction repairs_made
  same_whole fine = rw (fine, zeros, same-cleared _ (order_peels n L (erasures m)) (all_clear n L m fine))

  -- ---- a turn
  module _ (k : ℕ) where
    abbrev v : List Entry
    v = turn_repairs n L k m

    turn-peels : Peels (sectored n L) (erasures m) v
    unfolding turn_repairs
    turn-peels = first_peels n L m k

    -- What comes of one array and of the other.
    pub record Alike (t u : Turn) : Type 0 where
      pub answer : u.answer ≡ t.answer
      pub map : u.map ≡ t.map
      pub sheets : u.sheets ≡ t.sheets
      pub array : Agree (sectored n L) (whole w) (erasures t.map) t.array u.array

    pub same_turn : Alike (turn_of n L f (whole w) k a m) (turn_of n L f (whole w) k b m)
    unfolding turn_of contradicts clear loss_told contradiction repairs_made
    same_turn = go (fatal (sectored n L) (erasures m)) refl (clear (sectored n L) (map_after m v)) refl
      where
        judged : (c : Bool) → consistent (sectored n L) (whole w) (rebuilt (sectored n L) (whole w) b v) ≡ c
            → Alike (cond (not c) (contradiction n f (whole w) a m) (repairs_made n L f (whole w) a m v))
            (cond (not c) (contradiction n f (whole w) b m) (repairs_made n L f (whole w) b m v))
        judged true q = record { answer = refl; map = refl; sheets = refl; array = agree v turn-peels }
        judged false q = record { answer = refl; map = refl; sheets = refl; array = rw zeros (λ d l h p i. refl) }

        go : (t : Bool) → fatal (sectored n L) (erasures m) ≡ t → (c : Bool) → clear (sectored n L) (map_after m v) ≡ c
            → Alike (turn_of n L f (whole w) k a m) (turn_of n L f (whole w) k b m)
        go true q c p = rw q (record { answer = refl; map = refl; sheets = refl; array = same })
        go false q false p = rw (q, p) (record { answer = refl; map = refl; sheets = refl; array = agree v turn-peels })
        go false q true p =
            rw (q, p, ap (consistent (sectored n L) (whole w)) (same-cleared v turn-peels (eqb-true _ 0 p)))
            (judged (consistent (sectored n L) (whole w) (rebuilt (sectored n L) (whole w) b v)) refl)
