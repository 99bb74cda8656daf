-- What is spelled in parts is read again in parts, whatever follows.
use Rattle.std.proofs.Common.{◌≡◌, ◌∙◌, ap, subst, refl, ℕ, cond, List, [], ◌∷◌, ◌++◌, length, Option, Some, None, append_assoc}
use Rattle.std.specs.Prelude.{nat_eq}
use Rattle.std.specs.Cmp.Lexicographic.{pointwise, nat_list_eq_equiv}
use Rattle.sha2.specs.Sha256.{sha256}
use Rattle.sha2.proofs.Facts256.{length-sha256}
use Rattle.cm_bytes.specs.Fields.{Step, ◌>>=◌, byte_at, raw_at, u32_at, text_at, list_at, u32_of, text_of, list_of, IsReadAgain}
use Rattle.cm_bytes.proofs.Fields.{byte_again, raw_again, u32_again, text_again, list_again}
use Rattle.std.specs.Prelude.{◌<◌, ◌^◌, All}
use Rattle.bin_formats.specs.Reading.{both_at, made_at, meant_at, front_at, checked_at}

-- a value is read where its spelling stands, and what follows is left
pub record Again {A : Type 0} (spelling : List ℕ) (step : Step A) (x : A) : Type 0 where
  pub again : (rest : List ℕ) → step (spelling ++ rest) ≡ Some (x, rest)

-- one part and then another are read again
pub both_again : {A B : Type 0} {s t : List ℕ} {first : Step A} {second : Step B} {x : A} {y : B}
    → Again s first x → Again t second y → Again (s ++ t) (both_at first second) (x, y)
both_again {A} {B} {s} {t} {first} {second} {x} {y} one two = record {
  again = λ rest.
      let later : A × List ℕ → Option ((A × B) × List ℕ) = λ p. second p.1 >>= λ q. Some ((p.0, q.0), q.1) in
      ap (λ (bytes : List ℕ). first bytes >>= later) (append_assoc s t rest)
      ∙ ap (λ read. read >>= later) (one.again (t ++ rest))
      ∙ ap (λ read. read >>= λ (q : B × List ℕ). Some ((x, q.0), q.1)) (two.again rest);
}

-- what is made of a part is read again
pub made_again : {A B : Type 0} {s : List ℕ} {step : Step A} {x : A} (make : A → B)
    → Again s step x → Again s (made_at make step) (make x)
made_again {A} {B} make one = record {
  again = λ rest. ap (λ read. read >>= λ (p : A × List ℕ). Some (make p.0, p.1)) (one.again rest);
}

-- what a part stands for is read again
pub meant_again : {A B : Type 0} {s : List ℕ} {step : Step A} {x : A} (meaning : A → Option B) (y : B)
    → meaning x ≡ Some y → Again s step x → Again s (meant_at meaning step) y
meant_again {A} {B} meaning y is one = record {
  again = λ rest.
      ap (λ read. read >>= λ (p : A × List ℕ). meaning p.0 >>= λ m. Some (m, p.1)) (one.again rest)
      ∙ ap (λ meant. meant >>= λ (m : B). Some (m, rest)) is;
}

-- a byte is read again
pub byte_reads_again : (byte : ℕ) → Again (byte ∷ []) byte_at byte
byte_reads_again byte = record { again = λ rest. byte_again byte rest }

-- so many bytes are read again
pub raw_reads_again : (bytes : List ℕ) (n : ℕ) → length bytes ≡ n → Again bytes (raw_at n) bytes
raw_reads_again bytes n is =
    subst (λ (k : ℕ). Again bytes (raw_at k) bytes) is (record { again = λ rest. raw_again bytes rest })

-- a number is read again
pub u32_reads_again : (n : ℕ) → n < 2 ^ 32 → Again (u32_of n) u32_at n
u32_reads_again n below = record { again = λ rest. u32_again n rest below }

-- a text is read again
pub text_reads_again : (text : List ℕ) → length text < 2 ^ 32 → Again (text_of text) text_at text
text_reads_again text below = record { again = λ rest. text_again text rest below }

-- a list is read again, where each item is
pub list_reads_again : {A : Type 0} (item_of : A → List ℕ) (item_at : Step A) (xs : List A) (Fits : A → Type 0)
    → ((x : A) → Fits x → Again (item_of x) item_at x) → All Fits xs → length xs < 2 ^ 32
    → Again (list_of item_of xs) (list_at item_at) xs
list_reads_again {A} item_of item_at xs Fits law fits below =
    let each : All (IsReadAgain item_of item_at) xs =
    λ k d lt. record { again = (law _ (fits k d lt)).again } in
    record { again = λ rest. list_again item_of item_at xs rest each below }

-- bytes are equal to themselves
same_chosen : {A : Type 0} (bytes : List ℕ) (x : A) → cond (pointwise nat_eq bytes bytes) (Some x) None ≡ Some x
same_chosen bytes x = rw (nat_list_eq_equiv.refl bytes) refl

-- a fixed front is read again
pub front_again : (front : List ℕ) → Again front (front_at front) tt
front_again front =
    meant_again (λ found. cond (pointwise nat_eq found front) (Some tt) None) tt (same_chosen front tt)
    (raw_reads_again front (length front) refl)

-- a value with the digest of its spelling is read again
pub checked_again : {A : Type 0} (body : A → List ℕ) (step : Step A) (x : A)
    → Again (body x) step x → Again (body x ++ sha256 (body x)) (checked_at body step) x
checked_again {A} body step x one =
    meant_again (λ (p : A × List ℕ). cond (pointwise nat_eq p.1 (sha256 (body p.0))) (Some p.0) None) x
    (same_chosen (sha256 (body x)) x)
    (both_again one (raw_reads_again (sha256 (body x)) 32 (length-sha256 (body x))))
