-- How code finds the binfile that some bytes are: by the digest at their end, and by the steps on what stands before it.
use Rattle.std.proofs.Common.{◌≡◌, ◌∙◌, ap, sym, subst, refl, inl, inr, ℕ, ◌+◌, ◌-◌, ◌<◌, ◌≤◌, Bool, true, false, cond, ltb, List, [], ◌∷◌, ◌++◌, length, take, drop, Option, Some, None, append-nil, arith}
use Rattle.std.proofs.lemmas.Bool.{ltb-false}
use Rattle.std.proofs.lemmas.List.{take_at, drop_at, length-append, length-take, take-append-drop}
use Rattle.sha2.specs.Sha256.{sha256}
use Rattle.sha2.proofs.Facts256.{length-sha256}
use Rattle.cm_bytes.specs.Fields.{Step, ◌>>=◌, IsBytes, raw_at}
use Rattle.cm_bytes.proofs.Fields.{IsBytes-append_left, bind_some, some_is}
use Rattle.bin_formats.specs.declared.bin.Bin.{Bin}
use Rattle.bin_formats.specs.Format.{bin_body, binfile, IsBin}
use Rattle.bin_formats.specs.Reading.{bin_body_at, bin_at, if_whole, all_of}
use Rattle.bin_formats.specs.Took.{ReadsBin}
use Rattle.bin_formats.proofs.Formats.{bin_body_again, bin_again}
use Rattle.bin_formats.proofs.Spelled.{bin_body_spelled, bin_spelled}

-- what was read, with the bytes that are left
abbrev read_so : {A : Type 0} → A → List ℕ → Option (A × List ℕ)
read_so x rest = Some (x, rest)

nothing_left : {A : Type 0} (y x : A) (rest : List ℕ) → if_whole y rest ≡ Some x → read_so y rest ≡ read_so x []
nothing_left y x [] e = cc
nothing_left y x (b ∷ rest) e = absurd cc

-- where nothing stands behind a value
whole_is : {A : Type 0} (read : Option (A × List ℕ)) (x : A) → all_of read ≡ Some x → read ≡ Some (x, [])
whole_is {A} read x e =
    let one = bind_some read (λ (p : A × List ℕ). if_whole p.0 p.1) x e in
    one.1 ∙ nothing_left one.0.0 x one.0.1 one.2

-- bytes that are read as so many are so many
pub raw_length : (n : ℕ) (bytes text rest : List ℕ) → raw_at n bytes ≡ Some (text, rest) → length text ≡ n
unfolding raw_at
raw_length n bytes text rest e = by_test (ltb (length bytes) n) refl e
  where
    by_test : (b : Bool) → ltb (length bytes) n ≡ b → cond b None (read_so (take n bytes) (drop n bytes)) ≡ read_so text rest
        → length text ≡ n
    by_test true is e = absurd cc
    by_test false is e =
        let long : n ≤ length bytes = ltb-false (length bytes) n is in
        let same : take n bytes ≡ text = ap (λ (p : List ℕ × List ℕ). p.0) (some_is (take n bytes, drop n bytes) (text, rest) e) in
        sym (ap length same) ∙ omega (arith, length-take n bytes)

-- ---- the digest at the end

-- bytes with the digest of the rest at their end have one rest
one_body : (a b : List ℕ) → a ++ sha256 a ≡ b ++ sha256 b → a ≡ b
one_body a b e =
    let long : length b ≡ length a =
    omega (arith, ap length e, length-append a (sha256 a), length-append b (sha256 b), length-sha256 a, length-sha256 b) in
    sym (take_at a (sha256 a) (length a) refl) ∙ ap (take (length a)) e ∙ take_at b (sha256 b) (length a) long

-- too few bytes for a digest
pub too_short : (bytes : List ℕ) → length bytes < 32 → (body : List ℕ) → bytes ≡ body ++ sha256 body → ⊥
too_short bytes lt body is = omega (arith, ap length is, length-append body (sha256 body), length-sha256 body)

-- the last 32 bytes are another digest
pub digest_differs : (bytes front digest : List ℕ) (n : ℕ) → n ≡ length bytes - 32 → front ≡ take n bytes → digest ≡ drop n bytes
    → (digest ≡ sha256 front → ⊥) → (body : List ℕ) → bytes ≡ body ++ sha256 body → ⊥
digest_differs bytes front digest n at before behind differ body is =
    let long : length body ≡ n =
    omega (arith, ap length is, length-append body (sha256 body), length-sha256 body) in
    let one : front ≡ body = before ∙ ap (take n) is ∙ take_at body (sha256 body) n long in
    differ (behind ∙ ap (drop n) is ∙ drop_at body (sha256 body) n long ∙ ap sha256 (sym one))

-- they are the digest of the rest
pub digest_same : (bytes front digest : List ℕ) (n : ℕ) → front ≡ take n bytes → digest ≡ drop n bytes
    → digest ≡ sha256 front → bytes ≡ front ++ sha256 front
digest_same bytes front digest n before behind is =
    sym (take-append-drop n bytes) ∙ ap (λ (rest : List ℕ). take n bytes ++ rest) (sym behind ∙ is)
    ∙ ap (λ (head : List ℕ). head ++ sha256 front) (sym before)

-- ---- the binfile before it

-- what is read of the bytes before their digest
pub bin_found : (bytes body : List ℕ) (bin : Bin) → IsBytes bytes → bytes ≡ body ++ sha256 body
    → all_of (bin_body_at body) ≡ Some bin → ReadsBin (Some bin) bytes
unfolding binfile
bin_found bytes body bin cells is read =
    let front = IsBytes-append_left body (sha256 body) (subst IsBytes is cells) in
    let at = whole_is (bin_body_at body) bin read in
    let spelled : body ≡ bin_body bin =
    (bin_body_spelled.takes body bin [] front at).parts ∙ append-nil (bin_body bin) in
    (bin_body_spelled.fits body bin [] front at, is ∙ ap (λ (b : List ℕ). b ++ sha256 b) spelled)

-- nothing is read of them
pub no_body : (bytes body : List ℕ) → bytes ≡ body ++ sha256 body → all_of (bin_body_at body) ≡ None → ReadsBin None bytes
unfolding binfile
no_body bytes body is none = λ bin fits spelled.
    let same : bin_body bin ≡ body = one_body (bin_body bin) body (sym spelled ∙ is) in
    let again : bin_body_at body ≡ Some (bin, []) =
    ap bin_body_at (sym same ∙ sym (append-nil (bin_body bin))) ∙ (bin_body_again bin fits).again [] in
    let bad : None ≡ Some bin = sym none ∙ ap all_of again in
    absurd cc

-- there is no digest
pub no_digest : (bytes : List ℕ) → ((body : List ℕ) → bytes ≡ body ++ sha256 body → ⊥) → ReadsBin None bytes
unfolding binfile
no_digest bytes never = λ bin fits spelled. never (bin_body bin) spelled

-- what is found is what the steps read
pub by_steps : (bytes : List ℕ) (found : Option Bin) → IsBytes bytes → ReadsBin found bytes → found ≡ all_of (bin_at bytes)
by_steps bytes (Some bin) cells reads =
    sym (ap (λ (b : List ℕ). all_of (bin_at b)) (reads.1 ∙ sym (append-nil (binfile bin)))
    ∙ ap all_of ((bin_again bin reads.0).again []))
by_steps bytes None cells never = by_value (all_of (bin_at bytes)) refl
  where
    by_value : (o : Option Bin) → all_of (bin_at bytes) ≡ o → None ≡ o
    by_value None e = refl
    by_value (Some bin) e =
        let at = whole_is (bin_at bytes) bin e in
        absurd (never bin (bin_spelled.fits bytes bin [] cells at)
        ((bin_spelled.takes bytes bin [] cells at).parts ∙ append-nil (binfile bin)))

-- what is found before a digest is the binfile that all the bytes are
pub found_so : (bytes body : List ℕ) (found : Option Bin) → IsBytes bytes → bytes ≡ body ++ sha256 body
    → found ≡ all_of (bin_body_at body) → ReadsBin found bytes
found_so bytes body (Some bin) cells is read = bin_found bytes body bin cells is (sym read)
found_so bytes body None cells is read = no_body bytes body is (sym read)
