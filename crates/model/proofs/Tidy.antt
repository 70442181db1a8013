-- Tidy sheets: what comes of a sheet from elsewhere, in the words of paper 02, P4, for every format and every sheet. Where a theorem
-- asks for `Bytes s`, the sheet's numbers are bytes, as those of a lent buffer are.
-- Assumes nothing.
use mathlib.Core.Path.{◌≡◌, refl, sym, ◌∙◌, ap}
use mathlib.Core.Bool.{Bool, true, false}
use mathlib.Core.Logic.{◌↔◌}
use mathlib.Core.List.{List, [], ◌∷◌, ◌++◌, append-nil}
use Prim.Native.Nat.{ℕ, zero, suc, ◌+◌, ◌*◌, ◌/◌, ◌^◌, ◌≤◌, ◌<◌}
use native.Mathlib.Nat.{add-zero, mul_comm, mul-suc, mul-le-mul_left, div-add-mod'}
use native.Mathlib.Omega.{arith}
use borrow.Author.Tests.{eq-eqb, ne_eqb, eqb-true, eqb-false}
use lib.Dec.{eqb}
use lib.Arith.{digits_div}
use lib.ListN.{length, get_or, take, drop, length-append, length-drop}
use lib.Seq.{length-take-le, drop-length}
use Rattle.stripes.specs.System.{Layout, whole, Bytes}
use Rattle.stripes.specs.Erased.{erasures}
use Rattle.stripes.specs.Repair.{Entry, Peels, disk_of, stripe_of, fatal}
use Rattle.stripes.specs.Sectors.{sectored, rising, sector_repairs, of_position}
use Rattle.stripes.proofs.Fold.{by_cases, below_suc}
use Rattle.stripes.proofs.Positions.{order_peels, order-clears, fatal-sectors, rising_ext, rising_of, first_of}
use Rattle.model.specs.Grid.{size_fits}
use Rattle.model.specs.Refusal.{Test, refusal}
use Rattle.model.specs.Sheet.{Format, narrow, record_at, sheet_bytes, sheet_of, sheets_of, sheets_bytes, sheet_at, repair_sheets}
use Rattle.model.specs.Chain.{entry_at, chain_numbers, chain_tests, chain_refusal, on_chain, no_leftovers, clean_refusal, entries_at, chain_entries}
use Rattle.model.specs.Tidy.{tidy_tests, tidy_status, tidy_form, tidy_sheet, Tidy, TidyDemand, tidy_sheets}
use Rattle.model.specs.Plan.{plan_tests, plan_sheets, outcome_status, loss_sheets, sheet_layout}
use Rattle.model.specs.Turn.{repairs_made}
use Rattle.model.specs.Rebuild.{buffer_tests, buffer_refusal, rebuild_turn}
use Rattle.model.specs.Follow.{Usable, Reads, sheets_entries, chains_tests, sheets_tests, list_tests, follow_status, follow_tests, list_outcome, list_array, loose_status}
use Rattle.model.specs.declared.Size.{Size}
use Rattle.model.specs.Outcome.{Refused}
use Rattle.model.proofs.Refusal.{given-accepted, given-refused, passes, passed, refused_first}
use Rattle.model.proofs.Accept.{plan-fits, buffers_fit, buffers_passed, rebuild_fits}
use Rattle.model.proofs.Sheets.{Fitting, Small, small, number_small, sheet_length, sheet_bytes_lem, sheet_is}
use Rattle.model.proofs.Chain.{chain_few, clean-first, clean_exact, written_chain, off_chain}
use Rattle.model.proofs.SheetRow.{length-sheets, sheet_at_lem, whole_sheet_lem, bytes_at, length-sheet_at, repair_sheet_at, sheets-list, sectors_fitting, same_numbers, chains_go_on, sheets_go_on}
use Rattle.model.proofs.Turns.{first_peels}
use Rattle.model.proofs.Demand3.{turn_made}
use Rattle.model.proofs.Follow.{sectors, listed, sheets_refusal, Gives, follow_given, buffers_seven, follow_first}

-- ---- what the call gives
module _ (f : Format) (s : List ℕ) where
  -- It takes a sheet of the right length that 10 and 13 let through,
  pub tidy_takes : (tidy_status f s ≡ 0) ↔ ((length s ≡ sheet_bytes f) × (chain_refusal f s ≡ 0))
  unfolding tidy_status tidy_tests chain_refusal
  tidy_takes = (
    λ e.
        let (long, fit) = passed 5 (eqb (length s) (sheet_bytes f)) (chain_tests f s) (omega arith) e in
        (eqb-true (length s) (sheet_bytes f) long, fit),
    λ (long, fit). passes 5 (eqb (length s) (sheet_bytes f)) (chain_tests f s) (eq-eqb (length s) (sheet_bytes f) long) ∙ fit,
  )

  -- and brings it into its tidy form; any other it leaves as it was.
  pub tidy_taken : tidy_status f s ≡ 0 → tidy_sheet f s ≡ tidy_form f s
  unfolding tidy_sheet
  tidy_taken = given-accepted (tidy_status f s) (tidy_form f s) s

  pub tidy_refused : (tidy_status f s ≡ 0 → ⊥) → tidy_sheet f s ≡ s
  unfolding tidy_sheet
  tidy_refused = given-refused (tidy_status f s) (tidy_form f s) s

-- What stands off the chain does not matter: two sheets of one length that agree at every byte on the chain get the same answer and
-- have the same tidy form.
pub tidy-off_chain : (f : Format) (s t : List ℕ) → length s ≡ length t → ((i : ℕ) → on_chain f s i ≡ true → get_or s i 0 ≡ get_or t i 0)
    → (tidy_status f s ≡ tidy_status f t) × (tidy_form f s ≡ tidy_form f t)
unfolding tidy_status tidy_tests tidy_form chain_refusal refusal
tidy-off_chain f s t long same = let (fit, lists) = off_chain f s t same in (rw (long, fit), rw lists)

-- ---- formats whose kind and record numbers are bytes
module _ (f : Format) (kind : f.repair_kind < 256) (numbers : f.records < 256) where
  entries-small : (s : List ℕ) → Small s → (ks : List ℕ) (i : ℕ) → i < length (entries_at f s ks)
      → (disk_of (entries_at f s ks) i < 256 ^ f.disk_bytes) × (stripe_of (entries_at f s ks) i < 256)
  unfolding entries_at entry_at disk_of stripe_of
  entries-small s p [] i l = absurd (omega arith)
  entries-small s p (k ∷ ks) zero l = (number_small f.disk_bytes p (record_at f k), p.at (record_at f k + f.disk_bytes))
  entries-small s p (k ∷ ks) (suc i) l = entries-small s p ks i (omega arith)

  -- What a chain lists has room in a sheet.
  pub chain_fitting : (s : List ℕ) → Bytes s → chain_refusal f s ≡ 0 → Fitting f (chain_entries f s)
  unfolding chain_entries
  chain_fitting s bytes fit =
      let few : length (entries_at f s (chain_numbers f s)) ≤ f.records = chain_few f s fit in
      record {
        room = few;
        numbers = omega arith;
        disk = λ i l. (entries-small s (small s bytes) (chain_numbers f s) i l).0;
        stripe = λ i l. (entries-small s (small s bytes) (chain_numbers f s) i l).1;
      }

  -- A list of repairs that the library writes is tidy, and 10, 13 and 14 let it through.
  pub written-tidy : (w : List Entry) → Fitting f w → Tidy f (sheet_of f f.repair_kind w) × (clean_refusal f (sheet_of f f.repair_kind w) ≡ 0)
  written-tidy w fits =
      let s : List ℕ = sheet_of f f.repair_kind w in
      let (clean, lists) = written_chain f w kind fits in (
        ((tidy_takes f s).1 (sheet_length f f.repair_kind w, ((clean_exact f s).0 clean).0), rw lists (sheet_bytes_lem f f.repair_kind w kind fits)),
        clean,
      )

  -- Tidying a tidy sheet changes nothing.
  pub tidy-stays : (s : List ℕ) → Tidy f s → tidy_sheet f s ≡ s
  unfolding tidy_form
  tidy-stays s (taken, form) =
      let fits = chain_fitting s form.bytes ((tidy_takes f s).0 taken).1 in
      tidy_taken f s taken ∙ sym ((sheet_is f f.repair_kind (chain_entries f s) kind fits s).1 form)

  -- ---- a sheet that is taken
  module _ (s : List ℕ) (bytes : Bytes s) (taken : tidy_status f s ≡ 0) where
    -- It becomes what is asked for.
    pub tidy_demand : TidyDemand f s (tidy_sheet f s)
    unfolding tidy_form
    tidy_demand =
        let w : List Entry = chain_entries f s in
        let fits = chain_fitting s bytes ((tidy_takes f s).0 taken).1 in
        let (tidy, clean) = written-tidy w fits in
        rw (tidy_taken f s taken)
        (record {
          form = sheet_bytes_lem f f.repair_kind w kind fits;
          lists = (written_chain f w kind fits).1;
          tidy = tidy;
          stays = tidy-stays (sheet_of f f.repair_kind w) tidy;
          clean = clean;
        })

  -- Two sheets that are taken have the same tidy form exactly if they list the same disks and stripes in the same order.
  pub same-form : (s t : List ℕ) → Bytes s → Bytes t → tidy_status f s ≡ 0 → tidy_status f t ≡ 0
      → (tidy_sheet f s ≡ tidy_sheet f t) ↔ (chain_entries f s ≡ chain_entries f t)
  unfolding tidy_form
  same-form s t sBytes tBytes sTaken tTaken = (
    λ e. sym (tidy_demand s sBytes sTaken).lists ∙ ap (chain_entries f) e ∙ (tidy_demand t tBytes tTaken).lists,
    λ e. tidy_taken f s sTaken ∙ ap (sheet_of f f.repair_kind) e ∙ sym (tidy_taken f t tTaken),
  )

  -- Tidying any sheet again changes nothing.
  pub tidy-again : (s : List ℕ) → Bytes s → (tidy_status f (tidy_sheet f s) ≡ tidy_status f s) × (tidy_sheet f (tidy_sheet f s) ≡ tidy_sheet f s)
  tidy-again s bytes =
      by_cases (λ (b : Bool). (tidy_status f (tidy_sheet f s) ≡ tidy_status f s) × (tidy_sheet f (tidy_sheet f s) ≡ tidy_sheet f s)) (eqb (tidy_status f s) 0)
      (λ e.
      let taken = eqb-true (tidy_status f s) 0 e in
      let become = tidy_demand s bytes taken in
      (become.tidy.0 ∙ sym taken, become.stays))
      (λ e. let kept = tidy_refused f s (eqb-false (tidy_status f s) 0 e) in (ap (tidy_status f) kept, ap (tidy_sheet f) kept))

  -- A tidy sheet has no leftovers.
  pub tidy-clean : (s : List ℕ) → Tidy f s → no_leftovers f s ≡ true
  tidy-clean s tidy =
      ap (no_leftovers f) (sym (tidy-stays s tidy)) ∙ ((clean_exact f (tidy_sheet f s)).0 (tidy_demand s tidy.1.bytes tidy.0).clean).1

-- ---- the library's own sheets

-- The sheets of allowed repairs of sectors in rising order of position list them, and each is tidy.
repairs_read : (z : Size) → size_fits z ≡ true → (n : ℕ) (e : ℕ → Bool) (v : List Entry) → Peels (sectored n (sheet_layout z)) e v
    → rising n (λ p. of_position n p v) n ≡ v → Reads narrow n (repair_sheets narrow n v) v
repairs_read z size n e v peels in_order_lem =
    let fits = sectors_fitting z size n e v peels in
    let tidied : (p : ℕ) → p < n
    → Tidy narrow (sheet_at narrow p (repair_sheets narrow n v)) × (clean_refusal narrow (sheet_at narrow p (repair_sheets narrow n v)) ≡ 0) =
    λ p l. rw (repair_sheet_at narrow n v p l) (written-tidy narrow (omega arith) (omega arith) (of_position n p v) (fits p l)) in
    record { lists = sheets-list narrow n v (omega arith) fits ∙ in_order_lem; tidy = λ p l. (tidied p l).0; clean = λ p l. (tidied p l).1 }

-- Where plan does not call a loss fatal, its sheets are so, of all repairs in plan's order,
pub plan_reads : (z : Size) (n : ℕ) (m s : List ℕ) → refusal (plan_tests z n m (length s)) ≡ 0
    → fatal (sectored n (sheet_layout z)) (erasures m) ≡ false
    → Reads narrow n (plan_sheets z n m s) (sector_repairs n (sheet_layout z) (erasures m))
unfolding plan_sheets loss_sheets sector_repairs
plan_reads z n m s ok fine =
    let L : Layout = sheet_layout z in
    rw (ok, sym (fatal-sectors n L (erasures m)) ∙ fine)
    (repairs_read z (plan-fits z n m (length s) ok).0 n (erasures m) (sector_repairs n L (erasures m)) (order_peels n L (erasures m))
    (rising_of n _))

-- and follow can use them;
pub plan_usable : (z : Size) (n : ℕ) (m s : List ℕ) → refusal (plan_tests z n m (length s)) ≡ 0
    → fatal (sectored n (sheet_layout z)) (erasures m) ≡ false → Usable z n m (plan_sheets z n m s)
plan_usable z n m s ok fine =
    let reads = plan_reads z n m s ok fine in
    (reads.clean, rw reads.lists (order-clears n (sheet_layout z) (erasures m) fine))

-- and so are those of every turn that rebuild does not refuse, of its first repairs.
pub turn_reads : (z : Size) (B w : ℕ) (a m s : List ℕ) (k : ℕ) → outcome_status (rebuild_turn z B w a m s k).answer ≡ 0
    → Reads narrow (B / w) (rebuild_turn z B w a m s k).sheets (take k (sector_repairs (B / w) (sheet_layout z) (erasures m)))
unfolding repairs_made
turn_reads z B w a m s k accepted =
    let (ok, made) = turn_made z B w a m s k accepted in
    let size = (buffers_fit z B w a m s (rebuild_fits z B w a m s k ok).0).array.size in
    let v : List Entry = take k (sector_repairs (B / w) (sheet_layout z) (erasures m)) in
    rw made
    (repairs_read z size (B / w) (erasures m) v (first_peels (B / w) (sheet_layout z) m k) (first_of (B / w) (sheet_layout z) (erasures m) k))

-- ---- follow

-- Tidying leaves the length of a sheet, so the tidy forms one after another are such a buffer, and a single one is where there is one sheet.
tidy-length : (f : Format) (s : List ℕ) → length (tidy_sheet f s) ≡ length s
unfolding tidy_form
tidy-length f s =
    by_cases (λ (b : Bool). length (tidy_sheet f s) ≡ length s) (eqb (tidy_status f s) 0)
    (λ e.
    let taken = eqb-true (tidy_status f s) 0 e in
    ap length (tidy_taken f s taken) ∙ sheet_length f f.repair_kind (chain_entries f s) ∙ sym ((tidy_takes f s).0 taken).0)
    (λ e. ap length (tidy_refused f s (eqb-false (tidy_status f s) 0 e)))

-- The buffer t has each of the n sheets of s in its tidy form, or as it was where tidy refuses it. Nothing is said of its sheets where s is
-- not as long as n sheets: follow refuses both then, by 5 or before.
abbrev pub Tidied : Format → (n : ℕ) → (s t : List ℕ) → Type 0
Tidied f n s t =
    (length t ≡ length s) × (length s ≡ sheets_bytes f n → (p : ℕ) → p < n → sheet_at f p t ≡ tidy_sheet f (sheet_at f p s))

pub tidied_each : (f : Format) (n : ℕ) (s : List ℕ) → length s ≡ sheets_bytes f n
    → Tidied f n s (sheets_of n (λ p. tidy_sheet f (sheet_at f p s)))
tidied_each f n s long =
    let each : (p : ℕ) → p < n → length (tidy_sheet f (sheet_at f p s)) ≡ sheet_bytes f =
    λ p l. tidy-length f (sheet_at f p s) ∙ length-sheet_at f n s long p l in
    (length-sheets f n _ each ∙ sym long, λ _. sheet_at_lem f n _ each)

-- So are all sheets of a buffer as tidying them one after another leaves it, however long it is.
pub tidied_sheets : (f : Format) (n : ℕ) (s : List ℕ) → Tidied f n s (tidy_sheets f s)
unfolding tidy_sheets sheet_at
tidied_sheets f n s =
    let k : ℕ = length s / sheet_bytes f in
    let whole : sheet_bytes f * k ≤ length s = let all = div-add-mod' (length s) (sheet_bytes f) in let same = mul_comm k (sheet_bytes f) in omega arith in
    let each : (p : ℕ) → p < k → length (tidy_sheet f (sheet_at f p s)) ≡ sheet_bytes f =
    λ p l.
    let next : sheet_bytes f * suc p ≤ sheet_bytes f * k = mul-le-mul_left (sheet_bytes f) l in
    let sum = mul-suc (sheet_bytes f) p in
    let left = length-drop (sheet_bytes f * p) s in
    tidy-length f (sheet_at f p s) ∙ length-take-le (sheet_bytes f) (drop (sheet_bytes f * p) s) (omega arith) in
    let front = length-sheets f k (λ p. tidy_sheet f (sheet_at f p s)) each in
    let rest = length-drop (sheet_bytes f * k) s in (
      length-append (sheets_of k (λ p. tidy_sheet f (sheet_at f p s))) (drop (sheet_bytes f * k) s) ∙ (omega arith),
      λ long.
          let number : k ≡ n =
          ap (λ (i : ℕ). i / sheet_bytes f) (long ∙ mul_comm (sheet_bytes f) n ∙ sym (add-zero (n * sheet_bytes f))) ∙ digits_div n (omega arith) in
          let none : drop (sheet_bytes f * n) s ≡ [] = ap (λ (i : ℕ). drop i s) (sym long) ∙ drop-length s in
          rw (number, none, append-nil (sheets_of n (λ p. tidy_sheet f (sheet_at f p s)))) ((tidied_each f n s long).1 long),
    )

pub tidied_one : (f : Format) (s : List ℕ) → Tidied f 1 s (tidy_sheet f s)
tidied_one f s = (
  tidy-length f s,
  λ long.
      let all : length s ≡ sheet_bytes f = omega arith in
      let here : sheet_at f 0 (tidy_sheet f s) ≡ tidy_sheet f (sheet_at f 0 s) =
      whole_sheet_lem f (tidy_sheet f s) (tidy-length f s ∙ all) ∙ ap (tidy_sheet f) (sym (whole_sheet_lem f s all)) in
      below_suc (λ p. sheet_at f p (tidy_sheet f s) ≡ tidy_sheet f (sheet_at f p s)) 0 (λ p l. absurd (omega arith)) here,
)

-- Tidy or refused, a sheet lists what it listed.
lists-kept : (s : List ℕ) → Bytes s → chain_entries narrow (tidy_sheet narrow s) ≡ chain_entries narrow s
lists-kept s bytes =
    by_cases (λ (b : Bool). chain_entries narrow (tidy_sheet narrow s) ≡ chain_entries narrow s) (eqb (tidy_status narrow s) 0)
    (λ e. (tidy_demand narrow (omega arith) (omega arith) s bytes (eqb-true (tidy_status narrow s) 0 e)).lists)
    (λ e. ap (chain_entries narrow) (tidy_refused narrow s (eqb-false (tidy_status narrow s) 0 e)))

-- It gets the number that its chain had.
number-kept : (s : List ℕ) → Bytes s → length s ≡ sheet_bytes narrow → clean_refusal narrow (tidy_sheet narrow s) ≡ chain_refusal narrow s
number-kept s bytes long =
    by_cases (λ (b : Bool). clean_refusal narrow (tidy_sheet narrow s) ≡ chain_refusal narrow s) (eqb (chain_refusal narrow s) 0)
    (λ e.
    let fit = eqb-true (chain_refusal narrow s) 0 e in
    (tidy_demand narrow (omega arith) (omega arith) s bytes ((tidy_takes narrow s).1 (long, fit))).clean ∙ sym fit)
    (λ e.
    let unfit = eqb-false (chain_refusal narrow s) 0 e in
    ap (clean_refusal narrow) (tidy_refused narrow s (λ taken. unfit ((tidy_takes narrow s).0 taken).1)) ∙ clean-first narrow s unfit)

module _ (z : Size) (B w : ℕ) (a m s t : List ℕ) (bytes : Bytes s) (tidied : Tidied narrow (B / w) s t) where
  -- Where s is as long as its sheets, all of t list what those of s listed, and get the number that their chains had.
  module _ (long : length s ≡ sheets_bytes narrow (B / w)) where
    all-lists-kept : listed B w t ≡ listed B w s
    unfolding sheets_entries
    all-lists-kept =
        rising_ext (B / w) (B / w) (λ p l.
        ap (chain_entries narrow) (tidied.1 long p l) ∙ lists-kept (sheet_at narrow p s) (bytes_at narrow p s bytes))

    all-numbers-kept : sheets_refusal B w t ≡ refusal (chains_tests narrow (B / w) s)
    all-numbers-kept =
        same_numbers narrow (B / w) s t (λ p l.
        ap (clean_refusal narrow) (tidied.1 long p l)
        ∙ number-kept (sheet_at narrow p s) (bytes_at narrow p s bytes) (length-sheet_at narrow (B / w) s long p l))

    same_rest : (ts : List Test) → refusal (sheets_tests narrow (B / w) t ++ ts) ≡ refusal (chains_tests narrow (B / w) s ++ ts)
    same_rest ts =
        let k : ℕ = refusal (chains_tests narrow (B / w) s) in
        let same = all-numbers-kept in
        by_cases (λ (b : Bool). refusal (sheets_tests narrow (B / w) t ++ ts) ≡ refusal (chains_tests narrow (B / w) s ++ ts)) (eqb k 0)
        (λ e.
        let none = eqb-true k 0 e in
        sheets_go_on narrow (B / w) t (same ∙ none) ts ∙ sym (chains_go_on narrow (B / w) s none ts))
        (λ e.
        let some = eqb-false k 0 e in
        refused_first (sheets_tests narrow (B / w) t) ts (λ q. some (sym same ∙ q)) ∙ same
        ∙ sym (refused_first (chains_tests narrow (B / w) s) ts some))

  -- The buffers are refused alike.
  same-buffers : buffer_refusal z B w a m t ≡ buffer_refusal z B w a m s
  unfolding buffer_refusal
  same-buffers = rw tidied.0

  tidied-status : (ok : buffer_refusal z B w a m s ≡ 0) → follow_status z B w a m t ≡ loose_status z B w a m s
  unfolding follow_status follow_tests loose_status
  tidied-status ok =
      let long = (buffers_fit z B w a m s ok).long in
      buffers_passed z B w a m t (same-buffers ∙ ok) _
      ∙ same_rest long (list_tests (sectors z B w) (whole w) a m (listed B w t))
      ∙ ap (λ (v : List Entry). refusal (chains_tests narrow (B / w) s ++ list_tests (sectors z B w) (whole w) a m v)) (all-lists-kept long)
      ∙ sym (buffers_passed z B w a m s ok _)

  loose-first : (buffer_refusal z B w a m s ≡ 0 → ⊥) → loose_status z B w a m s ≡ buffer_refusal z B w a m s
  unfolding loose_status follow_tests buffer_refusal
  loose-first refused = refused_first (buffer_tests z B w (length a) m (length s)) _ refused

  -- Follow after tidy gives what follow gives where leftovers are ignored.
  pub follow_tidied : let k = loose_status z B w a m s in
      Gives z B w a m t (list_outcome k (listed B w s)) (list_array (sectors z B w) (whole w) a m k (listed B w s))
  follow_tidied = go (eqb (buffer_refusal z B w a m s) 0) refl
    where
      go : (b : Bool) → eqb (buffer_refusal z B w a m s) 0 ≡ b → let k = loose_status z B w a m s in
          Gives z B w a m t (list_outcome k (listed B w s)) (list_array (sectors z B w) (whole w) a m k (listed B w s))
      go true e =
          let ok = eqb-true (buffer_refusal z B w a m s) 0 e in
          rw (all-lists-kept (buffers_fit z B w a m s ok).long) at (follow_given z B w a m t (loose_status z B w a m s) (tidied-status ok))
      go false e =
          let refused = eqb-false (buffer_refusal z B w a m s) 0 e in
          let (answer, left) = follow_first z B w a m t (λ q. refused (sym same-buffers ∙ q)) in
          rw (loose-first refused, e, ne_eqb (buffer_refusal z B w a m s) 7 (buffers_seven z B w a m s))
          (answer ∙ ap Refused same-buffers, left)
