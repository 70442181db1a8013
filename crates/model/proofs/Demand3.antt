-- Demand 3: what plan and rebuild promise of a loss, for every size, block, sector, map and content.
-- Assumes nothing.
use mathlib.Core.Path.{◌≡◌, refl, sym, ◌∙◌, ap, subst}
use mathlib.Core.Bool.{Bool, true, false, cond, true≢false}
use mathlib.Core.Logic.{◌↔◌, ⊎_elim}
use mathlib.Core.List.{List, [], ◌∷◌, map}
use Prim.Native.Nat.{ℕ, ◌+◌, ◌*◌, ◌/◌, ◌%◌, ◌≤◌, ◌<◌, min}
use native.Mathlib.Omega.{arith}
use borrow.Author.Tests.{eqb-true, eqb-false, le-ltb}
use lib.Dec.{eqb, ltb}
use lib.ListN.{length, get_or, take, length-take}
use lib.Seq.{take_all}
use Rattle.model.specs.Turn.{Turn, loss_told, contradiction, repairs_made, turn_repairs, contradicts, unfinished, turn_of, turns_by, turns_of, last_of, made_by, whole_rebuild}
use Rattle.model.specs.Rebuild.{buffer_refusal, rebuild_tests, rebuild_refusal, rebuild_turn, rebuild_turns}
use Rattle.model.specs.Refusal.{refusal, array_tests}
use Rattle.model.specs.Plan.{loss_outcome, loss_sheets, plan_outcome, plan_sheets, plan_tests, sheet_layout, outcome_status}
use Rattle.model.specs.Edition.{superparity}
use Rattle.model.specs.Grid.{rectangle, size_fits, sector_fits, rows, columns, map_bytes, layout_of}
use Rattle.model.specs.declared.Size.{Size}
use Rattle.model.specs.Outcome.{Repairs, Refused}
use Rattle.model.specs.Demand3.{Planned, InTurns, Demand3, Restorable, TurnKeeps}
use Rattle.model.specs.Loop.{Loop}
use Rattle.model.specs.Sheet.{narrow, repair_sheets, blank_sheets}
use Rattle.model.proofs.Accept.{plan_accepts, plan-fits, rebuild_accepts, buffers_passed, limit_passed, rebuild_fits, buffers_fit, fit_accepted}
use Rattle.model.proofs.Turns.{first_peels, turn_length, turn_map, last_turn, early_turn, whole_turn_lem, fitting_turn, shape, as_whole}
use Rattle.model.proofs.Losses.{zero_seven, six_seven, order-restored, order_judged, results_of, Lawful, planned, edition_demand3}
use Rattle.model.proofs.Refusal.{given-accepted, given-refused, fails, ArrayFits}
use Rattle.model.proofs.Grid.{rows-below, Fits, size_fits_lem, layout-two, layout-sized, layout-disks, sector-cut, sector-some}
use Rattle.model.proofs.Loop.{loop_bound, fatal_loop, loop_is, loop_cycle, loop_fits, three}
use Rattle.model.proofs.Limits.{grid-repairs}
use Rattle.model.proofs.Contents.{same_turn}
use Rattle.stripes.specs.Fold.{count}
use Rattle.stripes.specs.System.{Layout, TwoStripes, whole, Bytes, consistent}
use Rattle.stripes.specs.Repair.{Entry, Peels, fatal, rebuilt}
use Rattle.stripes.specs.Sectors.{sectored, sector_repairs}
use Rattle.stripes.proofs.Fold.{lt_or_le}
use Rattle.stripes.proofs.Degree.{two_ordered}
use Rattle.stripes.proofs.Sums.{consistent_iff}
use Rattle.stripes.proofs.Bytes.{whole-inside}
use Rattle.stripes.proofs.Restore.{length-rebuilt, restore}
use Rattle.stripes.proofs.Split.{erasures-after, fatal-after}
use Rattle.stripes.proofs.Sectors.{two-sectors}
use Rattle.stripes.proofs.Positions.{length-order, order-rest, fatal-sectors}
use Rattle.stripes.proofs.SectorBytes.{size-sectors}
use Rattle.stripes.specs.Erased.{Agree, Belongs, erasures}

-- ---- which arguments are taken

-- Plan takes just these sizes, 1 to 4,096 sectors a block, a map with a byte of 0 or 1 for each sector, and a sheet of 98 bytes for each
-- position.
pub plan_takes : (a b n : ℕ) (m : List ℕ) (len : ℕ) → (refusal (plan_tests (rectangle a b) n m len) ≡ 0)
    ↔ ((2 ≤ a) × (a ≤ 15) × (2 ≤ b) × (b ≤ 15) × (1 ≤ n) × (n ≤ 4096)
    × ((length m ≡ (a + 1) * (b + 1) * n) × ((d : ℕ) → d < length m → get_or m d 0 ≤ 1) × (len ≡ 98 * n)))
plan_takes = plan_accepts

-- Rebuild takes, besides, just the blocks and the arrays that every call on an array takes, every length of a sector that divides the
-- block's, and every limit from 1 on.
pub rebuild_takes : (a b B w : ℕ) (array m sheets : List ℕ) (k : ℕ) → (rebuild_refusal (rectangle a b) B w array m sheets k ≡ 0)
    ↔ ((refusal (array_tests (rectangle a b) B (length array)) ≡ 0) × ((1 ≤ w) × (B % w ≡ 0))
    × ((length m ≡ (a + 1) * (b + 1) * (B / w)) × ((d : ℕ) → d < length m → get_or m d 0 ≤ 1) × (length sheets ≡ 98 * (B / w))) × (1 ≤ k))
rebuild_takes = rebuild_accepts

-- A limit of 0 gets 12, after the tests of the buffers and before all else.
pub limit_refused : (z : Size) (B w : ℕ) (a m sheets : List ℕ) → buffer_refusal z B w a m sheets ≡ 0
    → rebuild_refusal z B w a m sheets 0 ≡ 12
unfolding rebuild_refusal rebuild_tests
limit_refused z B w a m sheets ok = buffers_passed z B w a m sheets ok _ ∙ fails 12 (ltb 0 0) _ (le-ltb 0 0 (omega arith))

-- One that is refused by these tests changes nothing.
pub plan_refused : (z : Size) (n : ℕ) (m sheets : List ℕ) → (refusal (plan_tests z n m (length sheets)) ≡ 0 → ⊥)
    → (plan_outcome z n m sheets ≡ Refused (refusal (plan_tests z n m (length sheets)))) × (plan_sheets z n m sheets ≡ sheets)
unfolding plan_outcome plan_sheets
plan_refused z n m sheets refused = (
  given-refused (refusal (plan_tests z n m (length sheets))) _ _ refused,
  given-refused (refusal (plan_tests z n m (length sheets))) _ _ refused,
)

pub rebuild_refused : (z : Size) (B w : ℕ) (a m sheets : List ℕ) (k : ℕ) → (rebuild_refusal z B w a m sheets k ≡ 0 → ⊥)
    → rebuild_turn z B w a m sheets k
    ≡ record { answer = Refused (rebuild_refusal z B w a m sheets k); array = a; map = m; sheets = sheets }
unfolding rebuild_turn
rebuild_refused z B w a m sheets k refused = given-refused (rebuild_refusal z B w a m sheets k) _ _ refused

-- One that is not ends as a turn does,
pub rebuild_accepted : (z : Size) (B w : ℕ) (a m sheets : List ℕ) (k : ℕ) → rebuild_refusal z B w a m sheets k ≡ 0
    → rebuild_turn z B w a m sheets k ≡ turn_of (B / w) (sheet_layout z) narrow (whole w) k a m
unfolding rebuild_turn
rebuild_accepted z B w a m sheets k ok = given-accepted (rebuild_refusal z B w a m sheets k) _ _ ok

-- which makes the first repairs of plan's order if it answers 0,
pub turn_made : (z : Size) (B w : ℕ) (a m sheets : List ℕ) (k : ℕ) → outcome_status (rebuild_turn z B w a m sheets k).answer ≡ 0
    → (rebuild_refusal z B w a m sheets k ≡ 0)
    × (rebuild_turn z B w a m sheets k
    ≡ repairs_made (B / w) (sheet_layout z) narrow (whole w) a m (take k (sector_repairs (B / w) (sheet_layout z) (erasures m))))
unfolding turn_of turn_repairs loss_told loss_outcome contradiction outcome_status
turn_made z B w a m sheets k accepted = go (eqb (rebuild_refusal z B w a m sheets k) 0) refl
  where
    n : ℕ
    n = B / w

    L : Layout
    L = sheet_layout z

    v : List Entry
    v = turn_repairs n L k m

    taken : rebuild_refusal z B w a m sheets k ≡ 0 → (f : Bool) → fatal (sectored n L) (erasures m) ≡ f
        → (r : Bool) → contradicts (sectored n L) (whole w) a m v ≡ r → outcome_status (turn_of n L narrow (whole w) k a m).answer ≡ 0
        → turn_of n L narrow (whole w) k a m ≡ repairs_made n L narrow (whole w) a m (take k (sector_repairs n L (erasures m)))
    taken ok true lossy r i = rw (lossy, sym (fatal-sectors n L (erasures m)) ∙ lossy) (λ none. absurd (omega arith))
    taken ok false fine true contradicted = rw (fine, contradicted) (λ none. absurd (omega arith))
    taken ok false fine false agreed = rw (fine, agreed) (λ none. refl)

    go : (q : Bool) → eqb (rebuild_refusal z B w a m sheets k) 0 ≡ q
        → (rebuild_refusal z B w a m sheets k ≡ 0)
        × (rebuild_turn z B w a m sheets k ≡ repairs_made n L narrow (whole w) a m (take k (sector_repairs n L (erasures m))))
    go true q =
        let ok = eqb-true (rebuild_refusal z B w a m sheets k) 0 q in
        let is = rebuild_accepted z B w a m sheets k ok in (
          ok,
          is
              ∙ taken ok (fatal (sectored n L) (erasures m)) refl (contradicts (sectored n L) (whole w) a m v) refl
              (sym (ap (λ (t : Turn). outcome_status t.answer) is) ∙ accepted),
        )
    go false q =
        let refused = eqb-false (rebuild_refusal z B w a m sheets k) 0 q in
        absurd (refused (sym (ap (λ (t : Turn). outcome_status t.answer) (rebuild_refused z B w a m sheets k refused)) ∙ accepted))

-- and leaves an array and a map that another turn takes.
pub next_turn : (z : Size) (B w : ℕ) (a m sheets : List ℕ) (k : ℕ) → rebuild_refusal z B w a m sheets k ≡ 0
    → (others : List ℕ) → length others ≡ 98 * (B / w)
    → let t = turn_of (B / w) (sheet_layout z) narrow (whole w) k a m in rebuild_refusal z B w t.array t.map others k ≡ 0
next_turn z B w a m sheets k ok others long =
    let (buffers, some) = rebuild_fits z B w a m sheets k ok in
    let f = buffers_fit z B w a m sheets buffers in
    let t = turn_of (B / w) (sheet_layout z) narrow (whole w) k a m in
    limit_passed z B w t.array t.map others k some
    ∙ fit_accepted z B w t.array t.map others
    (record {
      array = rw (turn_length (B / w) (sheet_layout z) narrow (whole w) k a m) f.array;
      sector = f.sector;
      map = turn_map (B / w) (sheet_layout z) narrow (whole w) k a m (map_bytes z (B / w)) f.map;
      long = long;
    })

-- Where a block has n sectors: every one of some buffers has the length of their sheets.
abbrev pub Sheets : (n : ℕ) → List (List ℕ) → Type 0
Sheets n [] = Unit {0}
Sheets n (s ∷ ss) = (length s ≡ 98 * n) × Sheets n ss

-- ---- the sectors of a size

-- There are as many as a map has bytes, and as many repairs of a loss that is not fatal as erased ones.
pub sectors-number : (z : Size) (base n : ℕ) → (sectored n (layout_of z base)).disks ≡ map_bytes z n
unfolding sectored map_bytes
sectors-number z base n = ap (λ (d : ℕ). d * n) (layout-disks z base)

pub repairs-number : (z : Size) (base n : ℕ) (e : ℕ → Bool) → fatal (sectored n (layout_of z base)) e ≡ false
    → length (sector_repairs n (layout_of z base) e) ≡ count (map_bytes z n) e
repairs-number z base n e fine = length-order n (layout_of z base) e fine ∙ ap (λ (i : ℕ). count i e) (sectors-number z base n)

-- An array of blocks that sectors divide is one of sectors.
pub record Cut (z : Size) (B w : ℕ) (a : List ℕ) : Type 0 where
  pub size : size_fits z ≡ true
  pub two : TwoStripes (sheet_layout z)
  pub width : 0 < w
  pub long : length a ≡ (sectored (B / w) (sheet_layout z)).disks * w

pub array-cut : (z : Size) (B w : ℕ) (a : List ℕ) → ArrayFits z B (length a) → sector_fits B w ≡ true → Cut z B w a
unfolding whole
array-cut z B w a array sector =
    record {
      size = array.size;
      two = layout-two z narrow.base (rows-below z array.size);
      width = sector-some B w sector;
      long = layout-sized z narrow.base B a array.long ∙ size-sectors (B / w) w B (sector-cut B w sector) (sheet_layout z);
    }

-- So it is where rebuild is not refused.
pub rebuild_cut : (z : Size) (B w : ℕ) (a m sheets : List ℕ) (k : ℕ) → rebuild_refusal z B w a m sheets k ≡ 0 → Cut z B w a
rebuild_cut z B w a m sheets k ok =
    let f = buffers_fit z B w a m sheets (rebuild_fits z B w a m sheets k ok).0 in array-cut z B w a f.array f.sector

-- ---- one rebuild

-- With a limit that is no less than the number of erased sectors, the turn is the only one: it is a rebuild without turns, that of
-- paper 01, which makes all repairs and then tests every stripe.
pub rebuild_whole_lem : (z : Size) (B w : ℕ) (a m sheets : List ℕ) (k : ℕ) → 0 < k → count (map_bytes z (B / w)) (erasures m) ≤ k
    → rebuild_turn z B w a m sheets k
    ≡ cond (eqb (buffer_refusal z B w a m sheets) 0) (whole_rebuild (B / w) (sheet_layout z) narrow (whole w) a m)
    (record { answer = Refused (buffer_refusal z B w a m sheets); array = a; map = m; sheets = sheets })
unfolding rebuild_turn
rebuild_whole_lem z B w a m sheets k some enough =
    rw (
      limit_passed z B w a m sheets k some,
      whole_turn_lem (B / w) (sheet_layout z) narrow (whole w) k a m (rw (sectors-number z narrow.base (B / w)) enough),
    )

-- ---- the grid

-- There a loss is fatal exactly if a loop of paper 01 exists.
pub grid-fatal : (z : Size) (base : ℕ) → rows z < base → (e : ℕ → Bool)
    → (fatal (layout_of z base) e ≡ true) ↔ ((w : List Entry) × Loop z base e w)
grid-fatal = fatal_loop

-- At most rows + columns + 1 repairs, of the data rows and columns.
pub repairs-few : (z : Size) (base : ℕ) → rows z < base → (e : ℕ → Bool) (w : List Entry) → Peels (layout_of z base) e w
    → length w ≤ rows z + columns z + 1
repairs-few z base above e w peels = let few = grid-repairs z base above e w peels in omega arith

-- A loop has at most twice as many disks as the grid has rows, and as it has columns.
pub loop_few : (z : Size) (base : ℕ) (e : ℕ → Bool) (w : List Entry) → Loop z base e w
    → (length w ≤ 2 * (rows z + 1)) × (length w ≤ 2 * (columns z + 1))
loop_few = loop_bound

-- ---- the calls

-- The contents of an erased sector count for nothing: two arrays with the same survivors get the same answer, the same map and the
-- same sheets, and agree on the survivors that there are then.
pub contents_free : (z : Size) (B w : ℕ) (a b m sheets : List ℕ) (k : ℕ) → rebuild_refusal z B w a m sheets k ≡ 0
    → length b ≡ length a → Agree (sectored (B / w) (sheet_layout z)) (whole w) (erasures m) a b
    → let t = rebuild_turn z B w a m sheets k in let u = rebuild_turn z B w b m sheets k in
    (u.answer ≡ t.answer) × (u.map ≡ t.map) × (u.sheets ≡ t.sheets)
    × Agree (sectored (B / w) (sheet_layout z)) (whole w) (erasures t.map) t.array u.array
unfolding rebuild_refusal whole
contents_free z B w a b m sheets k ok long same =
    let cut = rebuild_cut z B w a m sheets k ok in
    let t = same_turn (B / w) (sheet_layout z) narrow w cut.width a b m cut.long long same k in
    rw (rebuild_accepted z B w a m sheets k ok, rebuild_accepted z B w b m sheets k ((rw long) ∙ ok))
    (t.answer, t.map, t.sheets, t.array)

-- ---- each turn by itself, whatever the limits of the others are

-- A fatal loss is told as plan tells it, and neither the array nor the map changes.
pub turn_fatal : (z : Size) (B w : ℕ) (a m sheets : List ℕ) (k : ℕ) → rebuild_refusal z B w a m sheets k ≡ 0
    → fatal (sectored (B / w) (sheet_layout z)) (erasures m) ≡ true
    → rebuild_turn z B w a m sheets k ≡ loss_told (B / w) (sheet_layout z) narrow a m
unfolding turn_of
turn_fatal z B w a m sheets k ok lossy = rebuild_accepted z B w a m sheets k ok ∙ (rw lossy)

-- Survivors of a sealed array: a turn makes the first repairs of plan's order, and what it leaves is again such.
pub turn_keeps : (z : Size) (B w : ℕ) (a m sheets : List ℕ) (k : ℕ) → rebuild_refusal z B w a m sheets k ≡ 0
    → (b : List ℕ) → Restorable (sectored (B / w) (sheet_layout z)) w b a m
    → TurnKeeps (B / w) (sheet_layout z) narrow w k b m (rebuild_turn z B w a m sheets k)
unfolding repairs_made whole
turn_keeps z B w a m sheets k ok b r =
    let cut = rebuild_cut z B w a m sheets k ok in
    let n : ℕ = B / w in
    let L : Layout = sheet_layout z in
    let S : Layout = sectored n L in
    let e : ℕ → Bool = erasures m in
    let v : List Entry = sector_repairs n L e in
    let number : length v ≡ count S.disks e = length-order n L e r.fine in
    let all : rebuilt S (whole w) a v ≡ b = order-restored n L cut.two e r.fine w a cut.long b r.word r.survivors in
    let sealed : consistent S (whole w) (rebuilt S (whole w) a v) ≡ true = rw all ((consistent_iff S (whole w) b).1 r.word.sums) in
    let is = rebuild_accepted z B w a m sheets k ok ∙ fitting_turn n L narrow (whole w) k a m r.fine sealed in
    let peels = first_peels n L m k in
    let bounded = (two_ordered S (two-sectors n L cut.two)).bounded in
    rw is
    (record {
      answer = ap Repairs (length-take k v ∙ ap (min k) number);
      map = refl;
      sheets = refl;
      others = ap (sector_repairs n L) (erasures-after m (take k v)) ∙ order-rest n L e k;
      again = record {
        word = r.word;
        sized = length-rebuilt S (whole w) a (take k v) ∙ r.sized;
        survivors =
            rw (erasures-after m (take k v))
            (restore S (whole w) (whole-inside w) bounded b r.word e a cut.long (take k v) peels r.survivors);
        fine = ap (fatal S) (erasures-after m (take k v)) ∙ fatal-after S e (take k v) peels ∙ r.fine;
      };
      restored = λ enough. ap (rebuilt S (whole w) a) (take_all k v (omega arith)) ∙ all;
    })

-- A turn is refused by 7 exactly if its limit is no less than the number of erased sectors, the loss is not fatal, and the survivors
-- belong to no sealed array.
pub turn_seven : (z : Size) (B w : ℕ) (a m sheets : List ℕ) (k : ℕ) → rebuild_refusal z B w a m sheets k ≡ 0 → Bytes a
    → (outcome_status (rebuild_turn z B w a m sheets k).answer ≡ 7)
    ↔ ((fatal (sectored (B / w) (sheet_layout z)) (erasures m) ≡ false) × (count (map_bytes z (B / w)) (erasures m) ≤ k)
    × (Belongs (sectored (B / w) (sheet_layout z)) (whole w) (erasures m) a → ⊥))
unfolding outcome_status turn_of loss_told loss_outcome whole_rebuild contradiction repairs_made
turn_seven z B w a m sheets k ok small = rw (rebuild_accepted z B w a m sheets k ok) (go (fatal S e) refl)
  where
    n : ℕ
    n = B / w

    L : Layout
    L = sheet_layout z

    S : Layout
    S = sectored n L

    e : ℕ → Bool
    e = erasures m

    v : List Entry
    v = sector_repairs n L e

    Seven : Type 0
    Seven =
        (outcome_status (turn_of n L narrow (whole w) k a m).answer ≡ 7)
        ↔ ((fatal S e ≡ false) × (count (map_bytes z n) e ≤ k) × (Belongs S (whole w) e a → ⊥))

    judged : fatal S e ≡ false → (consistent S (whole w) (rebuilt S (whole w) a v) ≡ true) ↔ Belongs S (whole w) e a
    judged fine = let cut = rebuild_cut z B w a m sheets k ok in order_judged n L cut.two e fine w a cut.long small

    last : fatal S e ≡ false → length v ≤ k → (c : Bool) → consistent S (whole w) (rebuilt S (whole w) a v) ≡ c → Seven
    last fine few true q =
        let number = repairs-number z narrow.base n e fine in
        rw (last_turn n L narrow (whole w) k a m few, fine, q) (λ h. absurd (zero_seven h), λ h. absurd (h.2 ((judged fine).0 q)))
    last fine few false q =
        let number = repairs-number z narrow.base n e fine in
        rw (last_turn n L narrow (whole w) k a m few, fine, q)
        (λ h. (refl, omega arith, λ belongs. true≢false (sym ((judged fine).1 belongs) ∙ q)), λ h. refl)

    go : (f : Bool) → fatal S e ≡ f → Seven
    go true lossy =
        rw (lossy, sym (fatal-sectors n L e) ∙ lossy) (λ h. absurd (six_seven h), λ h. absurd (true≢false h.0))
    go false fine =
        ⊎_elim
        (λ (many : k < length v).
        let number = repairs-number z narrow.base n e fine in
        rw (early_turn n L narrow (whole w) k a m fine many).0
        (λ h. absurd (zero_seven h), λ h. let enough = h.1 in absurd (omega arith)))
        (λ few. last fine few (consistent S (whole w) (rebuilt S (whole w) a v)) refl) (lt_or_le k (length v))

-- The edition of paper 01 is lawful.
pub superparity_lawful : (z : Size) → size_fits z ≡ true → Lawful (superparity z narrow.base) narrow
unfolding superparity
superparity_lawful z fits =
    let above : rows z < 16 = rows-below z fits in
    let f : Fits z = size_fits_lem z fits in
    record {
      two = layout-two z 16 above;
      limited = repairs-few z 16 above;
      limit_fits = omega arith;
      loops = λ e w. (loop_is z 16 above e w, loop_cycle z 16 above e w);
      loops_fit = λ e w y. loop_fits z 16 above e w y fits;
      few = λ e h. three z 16 above e (rw (layout-disks z 16) at h);
    }

-- What plan promises holds of what it is defined to give, for every input that its refusals before 6 let through.
pub plan-planned : (z : Size) (n : ℕ) (m sheets : List ℕ) → refusal (plan_tests z n m (length sheets)) ≡ 0
    → Planned n (superparity z narrow.base) narrow (erasures m) (plan_outcome z n m sheets) (plan_sheets z n m sheets)
unfolding plan_outcome plan_sheets superparity
plan-planned z n m sheets ok =
    rw ok
    (planned n (superparity z narrow.base) narrow (superparity_lawful z (plan-fits z n m (length sheets) ok).0) (erasures m))

-- Turn after turn rebuild does as a turn does, if nothing is refused at first and all buffers that follow have the length of sheets.
pub turns-accepted : (z : Size) (B w k : ℕ) (a m s : List ℕ) (ss : List (List ℕ)) → rebuild_refusal z B w a m s k ≡ 0
    → Sheets (B / w) ss → rebuild_turns z B w k (s ∷ ss) a m ≡ turns_of (B / w) (sheet_layout z) narrow (whole w) k (s ∷ ss) a m
unfolding turns_by
turns-accepted z B w k a m s [] ok long = rw (rebuild_accepted z B w a m s k ok) refl
turns-accepted z B w k a m s (s₂ ∷ ss) ok long =
    let t : Turn = turn_of (B / w) (sheet_layout z) narrow (whole w) k a m in
    rw (rebuild_accepted z B w a m s k ok)
    (ap (λ (rest : List Turn). t ∷ cond (unfinished (sectored (B / w) (sheet_layout z)) t) rest [])
    (turns-accepted z B w k t.array t.map s₂ ss (next_turn z B w a m s k ok s₂ long.0) long.1))

-- Whatever the survivors hold, the sheets of the turns of a loss that is not fatal, read one after another, list plan's repairs, the
-- next k each; but the last ones are zero where the survivors contradict each other.
pub turns-listed : (z : Size) (B w k : ℕ) (a m s : List ℕ) (ss : List (List ℕ)) → rebuild_refusal z B w a m s k ≡ 0 → Sheets (B / w) ss
    → let n = B / w in let S = sectored n (sheet_layout z) in
    fatal S (erasures m) ≡ false → count (map_bytes z n) (erasures m) ≤ length (s ∷ ss) * k
    → let v = sector_repairs n (sheet_layout z) (erasures m) in
    InTurns n narrow k
    (λ u. cond (consistent S (whole w) (rebuilt S (whole w) a v)) (repair_sheets narrow n u) (blank_sheets narrow n)) v
    (map (λ (t : Turn). t.sheets) (rebuild_turns z B w k (s ∷ ss) a m))
turns-listed z B w k a m s ss ok long fine enough =
    let n : ℕ = B / w in
    let L : Layout = sheet_layout z in
    let number = repairs-number z narrow.base n (erasures m) fine in
    rw (turns-accepted z B w k a m s ss ok long)
    (shape n L narrow (whole w) k (rebuild_fits z B w a m s k ok).1 s ss a m fine (omega arith) (loss_told n L narrow a m)).sheets

-- With survivors of a sealed array and a loss that is not fatal, the turns end as one rebuild does that makes all repairs: with the
-- same array and the same map.
pub turns_as_one : (z : Size) (B w k : ℕ) (a m s : List ℕ) (ss : List (List ℕ)) → Bytes a
    → rebuild_refusal z B w a m s k ≡ 0 → Sheets (B / w) ss → count (map_bytes z (B / w)) (erasures m) ≤ length (s ∷ ss) * k
    → fatal (sectored (B / w) (sheet_layout z)) (erasures m) ≡ false
    → Belongs (sectored (B / w) (sheet_layout z)) (whole w) (erasures m) a
    → (before : Turn) (all : ℕ) → 0 < all → count (map_bytes z (B / w)) (erasures m) ≤ all
    → let end = last_of before (rebuild_turns z B w k (s ∷ ss) a m) in let one = rebuild_turn z B w a m s all in
    (end.array ≡ one.array) × (end.map ≡ one.map)
turns_as_one z B w k a m s ss small ok long enough fine belongs before all any most =
    let (buffers, some) = rebuild_fits z B w a m s k ok in
    let cut = rebuild_cut z B w a m s k ok in
    let n : ℕ = B / w in
    let L : Layout = sheet_layout z in
    let number = repairs-number z narrow.base n (erasures m) fine in
    let sealed = (order_judged n L cut.two (erasures m) fine w a cut.long small).1 belongs in
    rw (turns-accepted z B w k a m s ss ok long, rebuild_whole_lem z B w a m s all any most, buffers)
    (as_whole n L narrow (whole w) k some a m fine before (turns_of n L narrow (whole w) k (s ∷ ss) a m)
    (shape n L narrow (whole w) k some s ss a m fine (omega arith) before) sealed)

-- Demand 3 holds of what plan is defined to give and of rebuild's turns, for every input that the refusals before 6 let through, if
-- the sheets are enough for the repairs of a loss that is not fatal.
pub demand3 : (z : Size) (B w k : ℕ) (a m s₁ s : List ℕ) (ss : List (List ℕ)) → Bytes a
    → refusal (plan_tests z (B / w) m (length s₁)) ≡ 0 → rebuild_refusal z B w a m s k ≡ 0 → Sheets (B / w) ss
    → (fatal (sectored (B / w) (sheet_layout z)) (erasures m) ≡ false
    → count (map_bytes z (B / w)) (erasures m) ≤ length (s ∷ ss) * k)
    → (before : Turn) → let ts = rebuild_turns z B w k (s ∷ ss) a m in
    Demand3 (B / w) (superparity z narrow.base) narrow w k a m
    (record {
      planned = plan_outcome z (B / w) m s₁;
      plan_sheets = plan_sheets z (B / w) m s₁;
      last = (last_of before ts).answer;
      made = made_by ts;
      array = (last_of before ts).array;
      map = (last_of before ts).map;
      sheets = map (λ (t : Turn). t.sheets) ts;
    })
unfolding plan_outcome plan_sheets results_of superparity turns_by last_of
demand3 z B w k a m s₁ s ss small planOk rebuildOk long enough before =
    let cut = rebuild_cut z B w a m s k rebuildOk in
    let n : ℕ = B / w in
    rw planOk
    (subst
    (λ (ts : List Turn).
    Demand3 n (superparity z narrow.base) narrow w k a m
    (record {
      planned = loss_outcome n (sheet_layout z) (erasures m);
      plan_sheets = loss_sheets n (sheet_layout z) narrow (erasures m);
      last = (last_of before ts).answer;
      made = made_by ts;
      array = (last_of before ts).array;
      map = (last_of before ts).map;
      sheets = map (λ (t : Turn). t.sheets) ts;
    }))
    (sym (turns-accepted z B w k a m s ss rebuildOk long))
    (edition_demand3 n (superparity z narrow.base) narrow (superparity_lawful z cut.size) w cut.width k
    (rebuild_fits z B w a m s k rebuildOk).1 s ss a m small cut.long (λ fine. rw (sectors-number z narrow.base n) (enough fine))))
