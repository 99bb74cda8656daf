-- Steps that are put together from exact ones are exact: of two after one another, of lists, and of tags.
use Rattle.std.proofs.Common.{◌≡◌, ℕ, ◌^◌, ◌<◌, Bool, true, false, cond, List, [], ◌∷◌, ◌++◌, length, All, Option, Some, None, refl, sym, ap, subst, ◌∙◌, append_assoc, arith}
use Rattle.std.specs.Prelude.{nat_eq}
use Rattle.std.specs.Int.{w64, to_be_bytes, from_be_bytes, cast_unsigned, cast_signed}
use Rattle.std.proofs.lemmas.Bool.{eqb-true, eq-eqb}
use Rattle.std.proofs.lemmas.Nat.{be_bytes_8, from_be_bytes-to_be_bytes_8}
use Rattle.std.proofs.lemmas.Int.{to_z-of_z, of_z-to_z}
use Rattle.std.proofs.Math.Facts.{Fits-of_z, sfits_to_z}
use Rattle.sml_syntax.specs.Code.{int_of, option_of}
use Rattle.sml_syntax.specs.Reading.{byte_of, IsByte, IsInt, int_at, u64_at, IfThere}
use Rattle.std.proofs.lemmas.List.Elements.{All-nil, All-cons, All-head, All-tail}
use Rattle.cm_bytes.specs.Fields.{Step, ◌>>=◌, IsBytes, IsReadAgain, Takes, ReadsSpelled, byte_at, raw_at, text_of, text_at, list_of, list_at}
use Rattle.cm_bytes.proofs.Fields.{bind_some, some_is, Takes-then, byte_again, byte_takes, IsBytes-nil, IsBytes-cons, raw_again, raw_takes, text_is_read_again, text_reads_spelled, list_again, list_takes}
use Rattle.sml_syntax.specs.ReadingUnit.{marked}
use Rattle.sml_syntax.specs.Steps.{turned, made, beside, both, Table, no_tag, or_tag, tagged, nothing_at, option_at, IsExact}

-- ---- what is read, made into something else

pub made_exact : {A B : Type 0} {part_of : B → List ℕ} {part_at : Step B} {FitsB : B → Type 0}
    (item_of : A → List ℕ) (Fits : A → Type 0) (f : B → A) (g : A → B)
    → IsExact part_of part_at FitsB
    → ((y : B) → FitsB y → item_of (f y) ≡ part_of y)
    → ((y : B) → FitsB y → Fits (f y))
    → ((x : A) → Fits x → (f (g x) ≡ x) × FitsB (g x))
    → IsExact item_of (made f part_at) Fits
unfolding made
made_exact {A} {B} {part_of} {part_at} {FitsB} item_of Fits f g part is fits back = record {
  again = λ x h. subst (IsReadAgain item_of (λ (bytes : List ℕ). part_at bytes >>= turned f)) (back x h).0 (record {
    again = λ rest. rw (is (g x) (back x h).1, (part.again (g x) (back x h).1).again rest) refl;
  });
  spelled = record {
    takes = λ bytes x rest h e. (parts bytes x rest h e).0;
    fits = λ bytes x rest h e. (parts bytes x rest h e).1;
  };
}
  where
    parts : (bytes : List ℕ) (x : A) (rest : List ℕ) → IsBytes bytes
        → (part_at bytes >>= turned f) ≡ Some (x, rest) → Takes bytes (item_of x) rest × Fits x
    parts bytes x rest h e =
        let one = bind_some (part_at bytes) (turned f) (x, rest) e in
        let y = one.0 in
        let got : A × List ℕ = (f y.0, y.1) in
        let fit = part.spelled.fits bytes y.0 y.1 h one.1 in
        let taken = subst (λ (s : List ℕ). Takes bytes s y.1) (sym (is y.0 fit)) (part.spelled.takes bytes y.0 y.1 h one.1) in
        subst (λ (q : A × List ℕ). Takes bytes (item_of q.0) q.1 × Fits q.0)
        (some_is got (x, rest) one.2) (taken, fits y.0 fit)

-- ---- one step and then another

pub both_exact : {A B : Type 0} {a_of : A → List ℕ} {a_at : Step A} {FitsA : A → Type 0}
    {b_of : B → List ℕ} {b_at : Step B} {FitsB : B → Type 0}
    → IsExact a_of a_at FitsA → IsExact b_of b_at FitsB
    → IsExact (λ (p : A × B). a_of p.0 ++ b_of p.1) (both a_at b_at) (λ (p : A × B). FitsA p.0 × FitsB p.1)
unfolding both
both_exact {A} {B} {a_of} {a_at} {FitsA} {b_of} {b_at} {FitsB} a b = record {
  again = λ p fits. record {
    again = λ rest.
        let first = (a.again p.0 fits.0).again (b_of p.1 ++ rest) in
        let second = (b.again p.1 fits.1).again rest in
        rw (append_assoc (a_of p.0) (b_of p.1) rest, first, second) refl;
  };
  spelled = record {
    takes = λ bytes p rest h e. (parts bytes p rest h e).0;
    fits = λ bytes p rest h e. (parts bytes p rest h e).1;
  };
}
  where
    parts : (bytes : List ℕ) (p : A × B) (rest : List ℕ) → IsBytes bytes
        → (a_at bytes >>= beside b_at) ≡ Some (p, rest)
        → Takes bytes (a_of p.0 ++ b_of p.1) rest × (FitsA p.0 × FitsB p.1)
    parts bytes p rest h e =
        let one = bind_some (a_at bytes) (beside b_at) (p, rest) e in
        let x = one.0 in
        let two = bind_some (b_at x.1) (turned (λ (y : B). (x.0, y))) (p, rest) one.2 in
        let y = two.0 in
        let front = a.spelled.takes bytes x.0 x.1 h one.1 in
        let back = b.spelled.takes x.1 y.0 y.1 front.after two.1 in
        let fit : FitsA x.0 × FitsB y.0 =
        (a.spelled.fits bytes x.0 x.1 h one.1, b.spelled.fits x.1 y.0 y.1 front.after two.1) in
        let got : (A × B) × List ℕ = ((x.0, y.0), y.1) in
        subst (λ (q : (A × B) × List ℕ). Takes bytes (a_of q.0.0 ++ b_of q.0.1) q.1 × (FitsA q.0.0 × FitsB q.0.1))
        (some_is got (p, rest) two.2) (Takes-then front back, fit)

-- ---- texts and lists

pub text_exact : IsExact text_of text_at (λ text. length text < 2 ^ 32)
text_exact = record { again = text_is_read_again; spelled = text_reads_spelled }

all_again : {A : Type 0} {item_of : A → List ℕ} {item_at : Step A} {Fits : A → Type 0}
    → IsExact item_of item_at Fits → (xs : List A) → All Fits xs → All (IsReadAgain item_of item_at) xs
all_again {A} {item_of} {item_at} item [] fits = All-nil (IsReadAgain item_of item_at)
all_again {A} {item_of} {item_at} {Fits} item (x ∷ xs) fits =
    All-cons (IsReadAgain item_of item_at) x xs (item.again x (All-head Fits x xs fits))
    (all_again item xs (All-tail Fits x xs fits))

pub list_exact : {A : Type 0} {item_of : A → List ℕ} {item_at : Step A} {Fits : A → Type 0}
    → IsExact item_of item_at Fits
    → IsExact (list_of item_of) (list_at item_at) (λ (xs : List A). (length xs < 2 ^ 32) × All Fits xs)
list_exact {A} {item_of} {item_at} {Fits} item = record {
  again = λ xs fits. record {
    again = λ rest. list_again item_of item_at xs rest (all_again item xs fits.1) fits.0;
  };
  spelled = record {
    takes = λ bytes xs rest h e. (list_takes item_of item_at Fits item.spelled bytes xs rest h e).takes;
    fits = λ bytes xs rest h e.
        let l = list_takes item_of item_at Fits item.spelled bytes xs rest h e in
        (l.count, l.fits);
  };
}

-- ---- tags

-- of each tag, that what is read after it is spelled so
pub record TableSpells {A : Type 0} (item_of : A → List ℕ) (table : Table A) (Fits : A → Type 0) : Type 0 where
  pub takes : (tag : ℕ) (bytes : List ℕ) (x : A) (rest : List ℕ) → IsBytes bytes → table tag bytes ≡ Some (x, rest)
      → (spelling : List ℕ) × (item_of x ≡ tag ∷ spelling) × Takes bytes spelling rest × Fits x

pub no_tag_spells : {A : Type 0} (item_of : A → List ℕ) (Fits : A → Type 0) → TableSpells item_of no_tag Fits
no_tag_spells item_of Fits = record { takes = λ tag bytes x rest h e. absurd cc }

-- one tag more
pub or_tag_spells : {A B : Type 0} {item_of : A → List ℕ} {Fits : A → Type 0} {others : Table A}
    {part_of : B → List ℕ} {part_at : Step B} {FitsB : B → Type 0}
    (t : ℕ) (f : B → A) → IsExact part_of part_at FitsB
    → ((y : B) → item_of (f y) ≡ t ∷ part_of y) → ((y : B) → FitsB y → Fits (f y))
    → TableSpells item_of others Fits → TableSpells item_of (or_tag t (made f part_at) others) Fits
unfolding or_tag made
or_tag_spells {A} {B} {item_of} {Fits} {others} {part_of} {part_at} {FitsB} t f part is fits more = record {
  takes = λ tag bytes x rest h. by_test (nat_eq tag t) tag refl bytes x rest h;
}
  where
    here : (bytes : List ℕ) (x : A) (rest : List ℕ) → IsBytes bytes
        → (part_at bytes >>= turned f) ≡ Some (x, rest)
        → (spelling : List ℕ) × (item_of x ≡ t ∷ spelling) × Takes bytes spelling rest × Fits x
    here bytes x rest h e =
        let one = bind_some (part_at bytes) (turned f) (x, rest) e in
        let y = one.0 in
        let got : A × List ℕ = (f y.0, y.1) in
        subst (λ (q : A × List ℕ). (spelling : List ℕ) × (item_of q.0 ≡ t ∷ spelling) × Takes bytes spelling q.1 × Fits q.0)
        (some_is got (x, rest) one.2)
        (part_of y.0, is y.0, part.spelled.takes bytes y.0 y.1 h one.1, fits y.0 (part.spelled.fits bytes y.0 y.1 h one.1))

    by_test : (test : Bool) (tag : ℕ) → nat_eq tag t ≡ test → (bytes : List ℕ) (x : A) (rest : List ℕ) → IsBytes bytes
        → (cond test (λ (bytes : List ℕ). part_at bytes >>= turned f) (others tag)) bytes ≡ Some (x, rest)
        → (spelling : List ℕ) × (item_of x ≡ tag ∷ spelling) × Takes bytes spelling rest × Fits x
    by_test true tag same bytes x rest h e =
        let one = here bytes x rest h e in
        (one.0, one.1 ∙ ap (λ (n : ℕ). n ∷ one.0) (sym (eqb-true tag t same)), one.2, one.3)
    by_test false tag same bytes x rest h e = more.takes tag bytes x rest h e

-- a tag that is read is the byte before its parts, and all of it is spelled so
pub tagged_spelled : {A : Type 0} {item_of : A → List ℕ} {table : Table A} {Fits : A → Type 0}
    → TableSpells item_of table Fits → ReadsSpelled item_of (tagged table) Fits
unfolding tagged
tagged_spelled {A} {item_of} {table} {Fits} law = record {
  takes = λ bytes x rest h e. (parts bytes x rest h e).0;
  fits = λ bytes x rest h e. (parts bytes x rest h e).1;
}
  where
    parts : (bytes : List ℕ) (x : A) (rest : List ℕ) → IsBytes bytes
        → (byte_at bytes >>= λ tag. table tag.0 tag.1) ≡ Some (x, rest) → Takes bytes (item_of x) rest × Fits x
    parts bytes x rest h e =
        let one = bind_some (byte_at bytes) (λ tag. table tag.0 tag.1) (x, rest) e in
        let tag = byte_takes bytes one.0.0 one.0.1 h one.1 in
        let two = law.takes one.0.0 one.0.1 x rest tag.0.after one.2 in
        (subst (λ (s : List ℕ). Takes bytes s rest) (sym two.1) (Takes-then tag.0 two.2), two.3)

-- a tag whose step is found in the table is read again with its parts
pub tagged_again : {A B : Type 0} {part_of : B → List ℕ} {part_at : Step B} {FitsB : B → Type 0}
    (item_of : A → List ℕ) (table : Table A) (t : ℕ) (f : B → A) → IsExact part_of part_at FitsB
    → (y : B) → FitsB y → item_of (f y) ≡ t ∷ part_of y → table t ≡ made f part_at
    → IsReadAgain item_of (tagged table) (f y)
unfolding tagged made
tagged_again {A} {B} {part_of} {part_at} item_of table t f part y fits is found = record {
  again = λ rest.
      let read = (part.again y fits).again rest in
      let step : table t (part_of y ++ rest) ≡ Some (f y, rest) =
      ap (λ (s : Step A). s (part_of y ++ rest)) found ∙ ap (λ (r : Option (B × List ℕ)). r >>= turned f) read in
      rw (is, byte_again t (part_of y ++ rest)) step;
}

-- ---- bytes, integers, nothing, and what may be absent

pub byte_exact : IsExact byte_of byte_at IsByte
byte_exact = record {
  again = λ b fits. record { again = λ rest. byte_again b rest };
  spelled = record {
    takes = λ bytes b rest h e. (byte_takes bytes b rest h e).0;
    fits = λ bytes b rest h e. (byte_takes bytes b rest h e).1;
  };
}

pub nothing_exact : IsExact (λ (u : Unit {0}). []) nothing_at (λ (u : Unit {0}). Unit {0})
nothing_exact = record {
  again = λ u fits. record { again = λ rest. refl };
  spelled = record {
    takes = λ bytes u rest h e.
        let got : Unit {0} × List ℕ = (tt, bytes) in
        let same : bytes ≡ rest = ap (λ (q : Unit {0} × List ℕ). q.1) (some_is got (u, rest) e) in
        subst (λ (r : List ℕ). Takes bytes [] r) same (record { parts = refl; front = IsBytes-nil; after = h });
    fits = λ bytes u rest h e. tt;
  };
}

-- a step that reads nothing at all
pub none_exact : {A : Type 0} (item_of : A → List ℕ) → IsExact item_of (λ bytes. None) (λ x. ⊥)
none_exact item_of = record {
  again = λ x fits. absurd fits;
  spelled = record { takes = λ bytes x rest h e. absurd cc; fits = λ bytes x rest h e. absurd cc };
}

or_tag_here : {A : Type 0} (t : ℕ) (item_at : Step A) (others : Table A) → or_tag t item_at others t ≡ item_at
unfolding or_tag
or_tag_here t item_at others = ap (λ (test : Bool). cond test item_at (others t)) (eq-eqb t t refl)

-- nodes of one tag alone
pub body_exact : {A B : Type 0} {item_of : A → List ℕ} {part_of : B → List ℕ} {part_at : Step B} {FitsB : B → Type 0}
    (t : ℕ) (f : B → A) → IsExact part_of part_at FitsB → ((y : B) → item_of (f y) ≡ t ∷ part_of y)
    → IsExact item_of (tagged (or_tag t (made f part_at) no_tag)) (λ x. (y : B) × (x ≡ f y) × FitsB y)
body_exact {A} {B} {item_of} {part_of} {part_at} {FitsB} t f part is = record {
  again = λ x fits.
      subst (IsReadAgain item_of (tagged (or_tag t (made f part_at) no_tag))) (sym fits.1)
      (tagged_again item_of (or_tag t (made f part_at) no_tag) t f part fits.0 fits.2 (is fits.0)
      (or_tag_here t (made f part_at) no_tag));
  spelled = tagged_spelled (or_tag_spells t f part is (λ y fits. (y, refl, fits)) (no_tag_spells item_of Fits));
}
  where
    Fits : A → Type 0
    Fits x = (y : B) × (x ≡ f y) × FitsB y

-- a byte that must stand before what is read
pub marked_exact : {A : Type 0} {part_of : A → List ℕ} {part_at : Step A} {Fits : A → Type 0}
    (mark : ℕ) → IsExact part_of part_at Fits → IsExact (λ (x : A). mark ∷ part_of x) (marked mark part_at) Fits
marked_exact {A} {part_of} {part_at} {Fits} mark part = record {
  again = λ x fits.
      tagged_again marked_of (or_tag mark (made same part_at) no_tag) mark same part x fits refl
      (or_tag_here mark (made same part_at) no_tag);
  spelled = tagged_spelled (or_tag_spells mark same part (λ x. refl) (λ x fits. fits) (no_tag_spells marked_of Fits));
}
  where
    marked_of : A → List ℕ
    marked_of x = mark ∷ part_of x

    same : A → A
    same x = x

pub option_exact : {A : Type 0} {item_of : A → List ℕ} {item_at : Step A} {Fits : A → Type 0}
    → IsExact item_of item_at Fits → IsExact (option_of item_of) (option_at item_at) (IfThere Fits)
unfolding option_at or_tag
option_exact {A} {item_of} {item_at} {Fits} item = record {
  again = again;
  spelled = tagged_spelled (
      or_tag_spells 0 none nothing_exact (λ u. refl) (λ u fits. fits) (
      or_tag_spells 1 some item (λ x. refl) (λ x fits. fits) (no_tag_spells (option_of item_of) (IfThere Fits))));
}
  where
    none : Unit {0} → Option A
    none u = None

    some : A → Option A
    some x = Some x

    table : Table (Option A)
    table = or_tag 0 (made none nothing_at) (or_tag 1 (made some item_at) no_tag)

    again : (x : Option A) → IfThere Fits x → IsReadAgain (option_of item_of) (tagged table) x
    again None fits = tagged_again (option_of item_of) table 0 none nothing_exact tt tt refl refl
    again (Some x) fits = tagged_again (option_of item_of) table 1 some item x fits refl refl

-- eight bytes as they are
pub record AreEight (bytes : List ℕ) : Type 0 where
  pub eight : length bytes ≡ 8
  pub are : IsBytes bytes

eight_exact : IsExact (λ (bytes : List ℕ). bytes) (raw_at 8) AreEight
eight_exact = record {
  again = λ text fits. record {
    again = λ rest. subst (λ (n : ℕ). raw_at n (text ++ rest) ≡ Some (text, rest)) fits.eight (raw_again text rest);
  };
  spelled = record {
    takes = λ bytes text rest h e. (raw_takes 8 bytes text rest h e).0;
    fits = λ bytes text rest h e.
        let r = raw_takes 8 bytes text rest h e in
        record { eight = r.1; are = r.0.front };
  };
}

number_bytes : (n : ℕ) → AreEight (to_be_bytes w64 n)
number_bytes n = record {
  eight = refl;
  are = IsBytes-cons _ _ (omega arith) (IsBytes-cons _ _ (omega arith) (IsBytes-cons _ _ (omega arith)
      (IsBytes-cons _ _ (omega arith) (IsBytes-cons _ _ (omega arith) (IsBytes-cons _ _ (omega arith)
      (IsBytes-cons _ _ (omega arith) (IsBytes-cons _ _ (omega arith) IsBytes-nil)))))));
}

number_below : (bytes : List ℕ) → IsBytes bytes → from_be_bytes w64 bytes < 2 ^ 64
number_below bytes h =
    omega (arith, h.below 0, h.below 1, h.below 2, h.below 3, h.below 4, h.below 5, h.below 6, h.below 7)

u64_exact : IsExact (to_be_bytes w64) u64_at (λ n. n < 2 ^ 64)
unfolding u64_at
u64_exact = made_exact (to_be_bytes w64) (λ n. n < 2 ^ 64) (from_be_bytes w64) (to_be_bytes w64) eight_exact
    (λ bytes fits. be_bytes_8 bytes _ fits.eight fits.are.below refl)
    (λ bytes fits. number_below bytes fits.are)
    (λ n lt. (from_be_bytes-to_be_bytes_8 n lt, number_bytes n))

-- eight bytes are an integer
pub int_exact : IsExact int_of int_at IsInt
unfolding int_of int_at
int_exact = made_exact int_of IsInt (cast_signed w64) (cast_unsigned w64) u64_exact
    (λ n lt. ap (to_be_bytes w64) (of_z-to_z w64 n lt))
    (λ n lt. record { fits = sfits_to_z {w = w64} {n = n} (record { fits = lt }) })
    (λ z is. (to_z-of_z w64 z is.fits, (Fits-of_z {w = w64} {z = z} is.fits).fits))
