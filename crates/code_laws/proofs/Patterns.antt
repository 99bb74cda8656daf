-- Low plain patterns have a code where their bytes are few enough.
use Rattle.std.proofs.Common.{◌≡◌, ℕ, zero, suc, ◌≤◌, ℤ, pos, negsuc, Bool, true, List, ◌++◌, map, refl, sym, ap, subst, ◌∙◌, arith, rules}
use Rattle.cm_bytes.specs.Fields.{text_of}
use Rattle.sml_trees.specs.declared.pat.Pat.{Pat, out-Pat, roll-Pat, roll-out-Pat, out-roll-Pat}
use Rattle.sml_trees.specs.declared.pat.Pat.TheOpen.{Pat-F, PatField-F}
use Rattle.sml_trees.specs.declared.pat.Pat.TheFolds.{map-Pat, map-PatField, fold-roll-Pat, fold-roll-PatField}
use Rattle.sml_trees.specs.declared.pat.PatField.{PatField, out-PatField, roll-PatField, roll-out-PatField, out-roll-PatField}
use Rattle.sml_syntax.specs.Code.{parts, option_of, name_of, long_of, ty_of, pat_of, pat_field_of, pat_level, pat_field_level}
use Rattle.sml_syntax.specs.Places.{pat_unplaced, pat_field_unplaced, unplaced_pat, unplaced_pat_field}
use Rattle.sml_syntax.specs.Reading.{IsInt, IsByte, IsName}
use Rattle.sml_syntax.specs.ReadingPat.{IsPatField, pat_level_is, pat_is}
use Rattle.tree_heights.specs.Heights.{pat_step, pat_field_step, pat_height, pat_field_height}
use Rattle.code_laws.specs.Constants.{fits_int, fits_byte, pat_fit, pat_field_fit, fit_pat, fit_pat_field}
use Rattle.code_laws.proofs.Lists.{Small, Full, small_left, small_right, small_tail, full_left, text_full, each_both, each_low, each_true, Reads, parts_read, text_reads, name_reads, long_reads}
use Rattle.code_laws.proofs.Types.{ty_reads, if_ty_reads}

-- ---- constants

pub int_reads : (n : ℤ) → fits_int n ≡ true → IsInt n
int_reads (pos n) fits = record { fits = record { sfits = search rules } }
int_reads (negsuc n) fits = record { fits = record { sfits = search rules } }

pub byte_reads : (n : ℕ) → fits_byte n ≡ true → IsByte n
byte_reads n fits = search rules

-- ---- patterns

abbrev LowPat : ℕ → Pat → Type 0
LowPat n x = (pat_height x ≤ n) × (fit_pat x ≡ true)

abbrev LowField : ℕ → PatField → Type 0
LowField n x = (pat_field_height x ≤ n) × (fit_pat_field x ≡ true)

abbrev pub PatReads : ℕ → Type 0
PatReads n = Reads pat_of unplaced_pat (LowPat n) (pat_is n).pat

abbrev heights_of : Pat-F Pat PatField → Pat-F ℕ ℕ
heights_of = map-Pat _ _ _ _ pat_height pat_field_height

abbrev bytes_of : Pat-F Pat PatField → Pat-F (List ℕ) (List ℕ)
bytes_of = map-Pat _ _ _ _ pat_of pat_field_of

abbrev tests_of : Pat-F Pat PatField → Pat-F Bool Bool
tests_of = map-Pat _ _ _ _ fit_pat fit_pat_field

abbrev bare_of : Pat-F Pat PatField → Pat-F Pat PatField
bare_of = map-Pat _ _ _ _ unplaced_pat unplaced_pat_field

level_full : (l : Pat-F Pat PatField) → Full (pat_level (bytes_of l))
level_full (Pat-F.Wild at) = omega arith
level_full (Pat-F.Int n at) = omega arith
level_full (Pat-F.Str text at) = omega arith
level_full (Pat-F.Char byte at) = omega arith
level_full (Pat-F.Long long at) = omega arith
level_full (Pat-F.Record fields at) = omega arith
level_full (Pat-F.Con long arg at) = omega arith
level_full (Pat-F.Typed pat ty at) = omega arith
level_full (Pat-F.As name ty pat at) = omega arith

bytes-is : (x : Pat) → pat_of x ≡ pat_level (bytes_of (out-Pat x))
bytes-is x = ap pat_of (sym (roll-out-Pat x)) ∙ fold-roll-Pat _ _ pat_level pat_field_level (out-Pat x)

pub pat_full : (x : Pat) → Full (pat_of x)
pat_full x = subst Full (sym (bytes-is x)) (level_full (out-Pat x))

field-bytes : (x : PatField) → pat_field_of x ≡ name_of (out-PatField x).label ++ pat_of (out-PatField x).pat
field-bytes x =
    ap pat_field_of (sym (roll-out-PatField x)) ∙ fold-roll-PatField _ _ pat_level pat_field_level (out-PatField x)

field_full : (x : PatField) → Full (pat_field_of x)
field_full x =
    subst Full (sym (field-bytes x))
    (full_left (name_of (out-PatField x).label) _ (text_full (out-PatField x).label.text))

-- over patterns of one level less
module _ (n : ℕ) (below : PatReads n) where
  field_reads : Reads pat_field_of unplaced_pat_field (LowField n) (IsPatField n (pat_is n))
  field_reads x (low, plain) small =
      let l = out-PatField x in
      let few : Small (name_of l.label ++ pat_of l.pat) = subst Small (field-bytes x) small in
      let under : pat_height l.pat ≤ n =
      subst (λ (h : ℕ). h ≤ n) (ap pat_field_height (sym (roll-out-PatField x)) ∙ fold-roll-PatField _ _ pat_step pat_field_step l) low in
      let test : fit_pat l.pat ≡ true =
      sym (ap fit_pat_field (sym (roll-out-PatField x)) ∙ fold-roll-PatField _ _ pat_fit pat_field_fit l) ∙ plain in
      let made : out-PatField (unplaced_pat_field x) ≡ pat_field_unplaced (map-PatField _ _ _ _ unplaced_pat unplaced_pat_field l) =
      ap (λ (y : PatField). out-PatField (unplaced_pat_field y)) (sym (roll-out-PatField x))
      ∙ ap out-PatField (fold-roll-PatField _ _ (λ y. roll-Pat (pat_unplaced y)) (λ y. roll-PatField (pat_field_unplaced y)) l)
      ∙ out-roll-PatField (pat_field_unplaced (map-PatField _ _ _ _ unplaced_pat unplaced_pat_field l)) in
      subst (λ (f : PatField-F Pat PatField). IsName f.label × (pat_is n).pat f.pat) (sym made) (
        name_reads l.label (small_left (name_of l.label) (pat_of l.pat) few),
        below l.pat (under, test) (small_right (name_of l.label) (pat_of l.pat) few),
      )

  level_reads : (l : Pat-F Pat PatField) → pat_step (heights_of l) ≤ suc n → pat_fit (tests_of l) ≡ true
      → Small (pat_level (bytes_of l)) → pat_level_is n (pat_is n) (pat_unplaced (bare_of l))
  level_reads (Pat-F.Wild at) low plain small = refl
  level_reads (Pat-F.Int n at) low plain small = (int_reads n plain, refl)
  level_reads (Pat-F.Str text at) low plain small = (text_reads text (small_tail 34 (text_of text) small), refl)
  level_reads (Pat-F.Char byte at) low plain small = (byte_reads byte plain, refl)
  level_reads (Pat-F.Long long at) low plain small = (long_reads long (small_tail 36 (long_of long) small), refl)
  level_reads (Pat-F.Record fields at) low plain small = (
    parts_read pat_field_of unplaced_pat_field (LowField n) (IsPatField n (pat_is n)) field_full field_reads fields
        (each_both (λ x. pat_field_height x ≤ n) (λ x. fit_pat_field x ≡ true) fields
        (each_low pat_field_height n fields (omega arith)) (each_true fit_pat_field fields plain))
        (small_tail 37 (parts (map pat_field_of fields)) small),
    refl,
  )
  level_reads (Pat-F.Con long arg at) low plain small =
      let few = small_tail 38 (long_of long ++ pat_of arg) small in (
        (
          long_reads long (small_left (long_of long) (pat_of arg) few),
          below arg (omega arith, plain) (small_right (long_of long) (pat_of arg) few),
        ),
        refl,
      )
  level_reads (Pat-F.Typed pat ty at) low plain small =
      let few = small_tail 39 (pat_of pat ++ ty_of ty) small in (
        (
          below pat (omega arith, plain) (small_left (pat_of pat) (ty_of ty) few),
          ty_reads n ty (omega arith) (small_right (pat_of pat) (ty_of ty) few),
        ),
        refl,
      )
  level_reads (Pat-F.As name ty pat at) low plain small =
      let few = small_tail 40 (name_of name ++ (option_of ty_of ty ++ pat_of pat)) small in
      let rest = small_right (name_of name) (option_of ty_of ty ++ pat_of pat) few in (
        (
          name_reads name (small_left (name_of name) (option_of ty_of ty ++ pat_of pat) few),
          (
            if_ty_reads n ty (omega arith) (small_left (option_of ty_of ty) (pat_of pat) rest),
            below pat (omega arith, plain) (small_right (option_of ty_of ty) (pat_of pat) rest),
          ),
        ),
        refl,
      )

  deeper : PatReads (suc n)
  deeper x (low, plain) small =
      let l = out-Pat x in
      let under : pat_step (heights_of l) ≤ suc n =
      subst (λ (h : ℕ). h ≤ suc n) (ap pat_height (sym (roll-out-Pat x)) ∙ fold-roll-Pat _ _ pat_step pat_field_step l) low in
      let test : pat_fit (tests_of l) ≡ true =
      sym (ap fit_pat (sym (roll-out-Pat x)) ∙ fold-roll-Pat _ _ pat_fit pat_field_fit l) ∙ plain in
      let made : out-Pat (unplaced_pat x) ≡ pat_unplaced (bare_of l) =
      ap (λ (y : Pat). out-Pat (unplaced_pat y)) (sym (roll-out-Pat x))
      ∙ ap out-Pat (fold-roll-Pat _ _ (λ y. roll-Pat (pat_unplaced y)) (λ y. roll-PatField (pat_field_unplaced y)) l)
      ∙ out-roll-Pat (pat_unplaced (bare_of l)) in
      subst (pat_level_is n (pat_is n)) (sym made) (level_reads l under test (subst Small (bytes-is x) small))

level_tall : (l : Pat-F Pat PatField) → pat_step (heights_of l) ≤ 0 → ⊥
level_tall (Pat-F.Wild at) low = omega arith
level_tall (Pat-F.Int n at) low = omega arith
level_tall (Pat-F.Str text at) low = omega arith
level_tall (Pat-F.Char byte at) low = omega arith
level_tall (Pat-F.Long long at) low = omega arith
level_tall (Pat-F.Record fields at) low = omega arith
level_tall (Pat-F.Con long arg at) low = omega arith
level_tall (Pat-F.Typed pat ty at) low = omega arith
level_tall (Pat-F.As name ty pat at) low = omega arith

pub pat_reads : (n : ℕ) → PatReads n
pat_reads zero x has small =
    absurd (level_tall (out-Pat x) (subst (λ (h : ℕ). h ≤ 0)
    (ap pat_height (sym (roll-out-Pat x)) ∙ fold-roll-Pat _ _ pat_step pat_field_step (out-Pat x)) has.0))
pat_reads (suc n) x has small = deeper n (pat_reads n) x has small
