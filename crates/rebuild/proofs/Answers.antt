-- What rebuild answers and leaves behind at each of its six ends.
-- Assumes nothing.
use mathlib.Core.Path.{◌≡◌, refl, sym, ◌∙◌, ap, subst}
use mathlib.Core.Bool.{Bool, true, false, cond, not}
use mathlib.Core.List.{List}
use Prim.Native.Nat.{ℕ, ◌/◌, ◌≤◌, ◌<◌, min}
use native.Mathlib.Omega.{arith}
use borrow.Author.Tests.{not-true, not-false}
use lib.Dec.{ltb}
use lib.ListN.{length, length-take}
use Rattle.stripes.specs.Fold.{count as Fold·count}
use Rattle.stripes.specs.System.{Layout, whole}
use Rattle.stripes.specs.Erased.{erasures}
use Rattle.stripes.specs.Undetermined.{lost}
use Rattle.stripes.specs.Repair.{Entry, Peels, map_after, fatal, rebuilt, zeroed}
use Rattle.stripes.specs.Sectors.{sectored, at_position, sector_repairs, fatal_position}
use Rattle.stripes.proofs.Peel.{named-repaired}
use Rattle.stripes.proofs.Positions.{length-order, fatal-sectors, first_of}
use Rattle.model.specs.Grid.{array_bytes}
use Rattle.model.specs.Refusal.{refusal, sector_tests}
use Rattle.model.specs.Sheet.{narrow, sheets_bytes, sheet_at, repair_sheets, blank_sheets}
use Rattle.model.specs.Chain.{chain_refusal}
use Rattle.model.specs.Plan.{sheet_tests, loss_outcome, loss_sheets, sheet_layout}
use Rattle.model.specs.Turn.{Turn, loss_told, contradiction, repairs_made, turn_repairs, contradicts, turn_of}
use Rattle.model.specs.Rebuild.{buffer_tests, buffer_refusal, rebuild_tests, rebuild_refusal, rebuild_turn}
use Rattle.model.specs.Follow.{sheets_entries}
use Rattle.model.specs.declared.Size.{Size}
use Rattle.model.specs.Outcome.{Outcome}
use Rattle.model.specs.Outcome.{Repairs, Fatal, Refused}
use Rattle.model.proofs.Refusal.{refused_first, sector_fits_lem, sector_passed}
use Rattle.model.proofs.Accept.{BuffersFit, buffers_fit, limit_passed}
use Rattle.model.proofs.Turns.{first_peels}
use Rattle.model.proofs.Demand3.{limit_refused, rebuild_refused, rebuild_accepted, sectors-number}
use Rattle.model.proofs.Grid.{map-length}
use Rattle.model.proofs.Chain.{clean_exact}
use Rattle.model.proofs.SheetRow.{length-repair_sheets, sheet_clean, sheets-list, sectors_fitting}
use Rattle.plan.specs.Drafted.{draft_sheets}
use Rattle.restore.specs.Restored.{Sectored}
use Rattle.rebuild.specs.Marked.{Within}

-- The stripe system of the sectors.
abbrev pub sectors : Size → (B w : ℕ) → Layout
sectors z B w = sectored (B / w) (sheet_layout z)

module _ (z : Size) (B w : ℕ) (a m sheets : List ℕ) (k : ℕ) where
  -- What rebuild promises of its answer, and of the array, the map and the sheets after it.
  abbrev pub Ends : Outcome → (b n s : List ℕ) → Type 0
  Ends answer b n s =
      let t = rebuild_turn z B w a m sheets k in (answer ≡ t.answer) × ((b ≡ t.array) × ((n ≡ t.map) × (s ≡ t.sheets)))

  ends_as : (t : Turn) → rebuild_turn z B w a m sheets k ≡ t → Ends t.answer t.array t.map t.sheets
  ends_as t e = (
    ap (λ (u : Turn). u.answer) (sym e),
    (ap (λ (u : Turn). u.array) (sym e), (ap (λ (u : Turn). u.map) (sym e), ap (λ (u : Turn). u.sheets) (sym e))),
  )

  -- ---- refused by the tests
  refused : (status : ℕ) → rebuild_refusal z B w a m sheets k ≡ status → (status ≡ 0 → ⊥) → Ends (Refused status) a m sheets
  refused status e some =
      subst (λ (i : ℕ). Ends (Refused i) a m sheets) e (ends_as _ (rebuild_refused z B w a m sheets k (λ q. some (sym e ∙ q))))

  -- What the tests of the buffers refuse is refused.
  buffers-refused : (status : ℕ) → buffer_refusal z B w a m sheets ≡ status → (status ≡ 0 → ⊥) → Ends (Refused status) a m sheets
  unfolding rebuild_refusal rebuild_tests buffer_refusal
  buffers-refused status same some =
      refused status (refused_first (buffer_tests z B w (length a) m (length sheets)) _ (λ q. some (sym same ∙ q)) ∙ same) some

  pub array_refused : (status : ℕ) → status ≡ refusal (sector_tests z B (length a) w) → (status ≡ 0 → ⊥) → Ends (Refused status) a m sheets
  unfolding buffer_refusal buffer_tests
  array_refused status e some =
      buffers-refused status (refused_first (sector_tests z B (length a) w) _ (λ q. some (e ∙ q)) ∙ sym e) some

  module _ (array_ok : refusal (sector_tests z B (length a) w) ≡ 0) where
    pub tests_left : buffer_refusal z B w a m sheets ≡ refusal (sheet_tests z (B / w) m (length sheets))
    unfolding buffer_refusal buffer_tests
    tests_left = let (array, sector) = sector_fits_lem z B (length a) w array_ok in sector_passed z B (length a) w array sector _

    pub sheet_refused : (status : ℕ) → status ≡ refusal (sheet_tests z (B / w) m (length sheets)) → (status ≡ 0 → ⊥)
        → Ends (Refused status) a m sheets
    sheet_refused status e = buffers-refused status (tests_left ∙ sym e)

    pub no_repairs : refusal (sheet_tests z (B / w) m (length sheets)) ≡ 0 → k ≡ 0 → Ends (Refused 12) a m sheets
    no_repairs sheet-ok none =
        refused 12 (ap (rebuild_refusal z B w a m sheets) none ∙ limit_refused z B w a m sheets (tests_left ∙ sheet-ok)) (λ q. omega arith)

-- ---- nothing is refused: a turn

-- The tests are passed.
pub record Passed (z : Size) (B w : ℕ) (a m sheets : List ℕ) (k : ℕ) : Type 0 where
  pub array : refusal (sector_tests z B (length a) w) ≡ 0
  pub sheets_fit : refusal (sheet_tests z (B / w) m (length sheets)) ≡ 0
  pub some : 0 < k

module _ {z : Size} {B w : ℕ} {a m sheets : List ℕ} {k : ℕ} (t : Passed z B w a m sheets k) where
  buffers-ok : buffer_refusal z B w a m sheets ≡ 0
  buffers-ok = tests_left z B w a m sheets k t.array ∙ t.sheets_fit

  pub fitting : BuffersFit z B w a m sheets
  fitting = buffers_fit z B w a m sheets buffers-ok

  pub held : Sectored z B w a
  unfolding array_bytes
  held = let f = fitting in record { block = f.array.block; sector = f.sector; sized = f.array.long }

  turns : rebuild_turn z B w a m sheets k ≡ turn_of (B / w) (sheet_layout z) narrow (whole w) k a m
  turns = rebuild_accepted z B w a m sheets k (limit_passed z B w a m sheets k t.some ∙ buffers-ok)

  -- A fatal loss: the array and the map stay.
  pub as_plan_lem : (answer : Outcome) (s : List ℕ) → answer ≡ loss_outcome (B / w) (sheet_layout z) (erasures m)
      → s ≡ draft_sheets (B / w) (sheet_layout z) narrow (erasures m) k → ((number : ℕ) → answer ≡ Repairs number → ⊥)
      → Ends z B w a m sheets k answer a m s
  unfolding turn_of loss_told loss_outcome loss_sheets draft_sheets
  as_plan_lem answer s answer-is sheets-are other = go (ltb (fatal_position (B / w) (sheet_layout z) (erasures m)) (B / w)) refl
    where
      L : Layout
      L = sheet_layout z

      go : (f : Bool) → ltb (fatal_position (B / w) L (erasures m)) (B / w) ≡ f → Ends z B w a m sheets k answer a m s
      go true q =
          let lossy = fatal-sectors (B / w) L (erasures m) ∙ q in
          rw turns (rw lossy (rw q (answer-is ∙ (rw q), (refl, (refl, sheets-are ∙ (rw q))))))
      go false q =
          absurd (other (length (sector_repairs (B / w) L (erasures m))) (answer-is ∙ (rw q)))

-- Plan answers with repairs: the loss is not fatal. At most k of them are made.
pub record Planned (z : Size) (B w : ℕ) (a m sheets : List ℕ) (k : ℕ) (s : List ℕ) (count made : ℕ) : Type 0 where
  pub tests : Passed z B w a m sheets k
  pub fine : fatal (sectors z B w) (erasures m) ≡ false
  pub counted : count ≡ length (sector_repairs (B / w) (sheet_layout z) (erasures m))
  pub written : s ≡ repair_sheets narrow (B / w) (turn_repairs (B / w) (sheet_layout z) k m)
  pub least : made ≡ min count k

pub planned : {z : Size} {B w : ℕ} {a m sheets : List ℕ} {k : ℕ} → Passed z B w a m sheets k
    → (answer : Outcome) (s : List ℕ) → answer ≡ loss_outcome (B / w) (sheet_layout z) (erasures m)
    → s ≡ draft_sheets (B / w) (sheet_layout z) narrow (erasures m) k
    → (count : ℕ) → answer ≡ Repairs count → (made : ℕ) → made ≡ min count k → Planned z B w a m sheets k s count made
unfolding loss_outcome draft_sheets turn_repairs
planned {z} {B} {w} {a} {m} {sheets} {k} t answer s answer-is sheets-are count e made least =
    go (ltb (fatal_position (B / w) L (erasures m)) (B / w)) refl
  where
    L : Layout
    L = sheet_layout z

    go : (f : Bool) → ltb (fatal_position (B / w) L (erasures m)) (B / w) ≡ f → Planned z B w a m sheets k s count made
    go true q =
        let p = fatal_position (B / w) L (erasures m) in
        let found : answer ≡ Fatal (lost L (at_position (B / w) p (erasures m))) p = answer-is ∙ rw q in
        let clash : ◌≡◌ {A = ℕ} 0 1 = cc in
        absurd (omega arith)
    go false q =
        let found : answer ≡ Repairs (length (sector_repairs (B / w) L (erasures m))) = answer-is ∙ rw q in
        record {
          tests = t;
          fine = fatal-sectors (B / w) L (erasures m) ∙ q;
          counted = cc;
          written = sheets-are ∙ (rw q);
          least = least;
        }

module _ {z : Size} {B w : ℕ} {a m sheets : List ℕ} {k : ℕ} {s : List ℕ} {count made : ℕ} (p : Planned z B w a m sheets k s count made) where
  -- The repairs of the turn. Each is allowed at its step, and those at each position have room in its sheet.
  abbrev own : List Entry
  own = turn_repairs (B / w) (sheet_layout z) k m

  own-peels : Peels (sectors z B w) (erasures m) own
  unfolding turn_repairs
  own-peels = first_peels (B / w) (sheet_layout z) m k

  -- The sheets list them.
  lists : sheets_entries narrow (B / w) s ≡ own
  unfolding turn_repairs
  lists =
      let room = sectors_fitting z (fitting p.tests).array.size (B / w) (erasures m) own own-peels in
      ap (sheets_entries narrow (B / w)) p.written ∙ sheets-list narrow (B / w) own (omega arith) room
      ∙ first_of (B / w) (sheet_layout z) (erasures m) k

  pub sheets-long : length s ≡ sheets_bytes narrow (B / w)
  sheets-long = ap length p.written ∙ length-repair_sheets narrow (B / w) own

  pub chains_fit : (q : ℕ) → q < B / w → chain_refusal narrow (sheet_at narrow q s) ≡ 0
  chains_fit q l =
      let room = sectors_fitting z (fitting p.tests).array.size (B / w) (erasures m) own own-peels in
      ap (λ (t : List ℕ). chain_refusal narrow (sheet_at narrow q t)) p.written
      ∙ ((clean_exact narrow (sheet_at narrow q (repair_sheets narrow (B / w) own))).0 (sheet_clean narrow (B / w) own (omega arith) room q l)).0

  pub peels : Peels (sectors z B w) (erasures m) (sheets_entries narrow (B / w) s)
  peels = subst (Peels (sectors z B w) (erasures m)) (sym lists) own-peels

  own-made : made ≡ length own
  unfolding turn_repairs
  own-made =
      let long = length-take k (sector_repairs (B / w) (sheet_layout z) (erasures m)) in
      let counted = p.counted in
      let least = p.least in
      omega arith

  pub made_is : made ≡ length (sheets_entries narrow (B / w) s)
  made_is = own-made ∙ ap length (sym lists)

  pub made-few : made ≤ count
  made-few = let least = p.least in omega arith

  pub count_is : count ≡ Fold·count (sectors z B w).disks (erasures m)
  count_is = p.counted ∙ length-order (B / w) (sheet_layout z) (erasures m) p.fine

  -- The map has a place for each of them.
  pub in_map : Within (length m) (sheets_entries narrow (B / w) s)
  in_map i h =
      let inside = (named-repaired (sectors z B w) (erasures m) (sheets_entries narrow (B / w) s) peels i h).0 in
      let number = sectors-number z narrow.base (B / w) in
      let long = map-length _ m (fitting p.tests).map in
      omega arith

  -- The survivors contradict each other.
  pub contradicted : (r : Bool) → r ≡ not (contradicts (sectors z B w) (whole w) a m (sheets_entries narrow (B / w) s)) → r ≡ false
      → (b t : List ℕ)
      → b ≡ cond r (rebuilt (sectors z B w) (whole w) a (sheets_entries narrow (B / w) s)) (zeroed (whole w) a (erasures m))
      → t ≡ blank_sheets narrow (B / w) → Ends z B w a m sheets k (Refused 7) b m t
  unfolding turn_of contradiction
  contradicted r found unfit b t zeros blank =
      let c : contradicts (sectors z B w) (whole w) a m own ≡ true =
      ap (contradicts (sectors z B w) (whole w) a m) (sym lists) ∙ not-false _ (sym found ∙ unfit) in
      rw (turns p.tests) (rw (p.fine, c) (refl, (zeros ∙ (rw unfit), (refl, blank))))

  -- The repairs are made.
  pub made_them : (r : Bool) → r ≡ not (contradicts (sectors z B w) (whole w) a m (sheets_entries narrow (B / w) s)) → r ≡ true
      → (b n : List ℕ)
      → b ≡ cond r (rebuilt (sectors z B w) (whole w) a (sheets_entries narrow (B / w) s)) (zeroed (whole w) a (erasures m))
      → n ≡ map_after m (sheets_entries narrow (B / w) s) → Ends z B w a m sheets k (Repairs made) b n s
  unfolding turn_of repairs_made
  made_them r found fit b n array_is map_is =
      let c : contradicts (sectors z B w) (whole w) a m own ≡ false =
      ap (contradicts (sectors z B w) (whole w) a m) (sym lists) ∙ not-true _ (sym found ∙ fit) in
      rw (turns p.tests)
      (rw (p.fine, c) (
        ap Repairs own-made,
        (
          array_is ∙ (rw fit) ∙ ap (rebuilt (sectors z B w) (whole w) a) lists,
          (map_is ∙ ap (map_after m) lists, p.written),
        ),
      ))
