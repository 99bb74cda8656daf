-- How code finds the record that some bytes are: by the digest at their end, and by the steps on what stands before it.
use Rattle.std.proofs.Common.{◌≡◌, ◌∙◌, ap, sym, subst, refl, ℕ, ◌+◌, ◌<◌, ◌^◌, Bool, true, false, cond, List, [], ◌∷◌, ◌++◌, length, take, Option, Some, None, append-nil, arith}
use Rattle.std.specs.Prelude.{nat_eq}
use Rattle.std.specs.Cmp.Lexicographic.{pointwise, same_text}
use Rattle.std.proofs.lemmas.List.{take_at, length-append}
use Rattle.sha2.specs.Sha256.{sha256}
use Rattle.sha2.proofs.Facts256.{length-sha256}
use Rattle.cm_bytes.specs.Fields.{IsBytes, ReadsSpelled, Step, raw_at}
use Rattle.cm_bytes.proofs.Fields.{IsBytes-append_left, bind_some, some_is, raw_takes, text_reads_spelled}
use Rattle.bin_formats.specs.declared.bin.ToolRecord.{ToolRecord}
use Rattle.bin_formats.specs.Format.{record_body, record_file, IsRecord}
use Rattle.bin_formats.specs.Reading.{record_body_at, record_at, texts_at, Texts, record_from, front_at, if_whole, all_of}
use Rattle.bin_formats.proofs.Formats.{record_again}
use Rattle.bin_formats.proofs.Steps.{Again, both_again, made_again, front_again, text_reads_again}
use Rattle.bin_formats.proofs.Spelled.{reads_spelled, both_spelled, made_spelled, meant_spelled, record_spelled}
use Rattle.tool_records.specs.Reading.{ReadsRecord}

-- what was read, with the bytes that are left
abbrev read_so : {A : Type 0} → A → List ℕ → Option (A × List ℕ)
read_so x rest = Some (x, rest)

nothing_left : {A : Type 0} (y x : A) (rest : List ℕ) → if_whole y rest ≡ Some x → read_so y rest ≡ read_so x []
nothing_left y x [] e = cc
nothing_left y x (b ∷ rest) e = absurd cc

-- where nothing stands behind a value
whole_is : {A : Type 0} (read : Option (A × List ℕ)) (x : A) → all_of read ≡ Some x → read ≡ Some (x, [])
whole_is {A} read x e =
    let one = bind_some read (λ (p : A × List ℕ). if_whole p.0 p.1) x e in
    one.1 ∙ nothing_left one.0.0 x one.0.1 one.2

-- a record up to its digest is read again
record_body_again : (run : ToolRecord) → IsRecord run → Again (record_body run) record_body_at run
unfolding record_body record_body_at texts_at
record_body_again run fits =
    made_again _ (both_again (front_again (67 ∷ 77 ∷ 84 ∷ 49 ∷ []))
    (both_again (text_reads_again run.unit fits.unit)
    (both_again (text_reads_again run.class fits.class)
    (both_again (text_reads_again run.rule fits.rule)
    (both_again (text_reads_again run.input fits.input) (text_reads_again run.output fits.output))))))

-- so many bytes as they are
raw_spelled : (n : ℕ) → ReadsSpelled (λ (text : List ℕ). text) (raw_at n) (λ text. length text ≡ n)
raw_spelled n = reads_spelled (λ text. text) (raw_at n) (λ text. length text ≡ n) (raw_takes n)

-- these bytes and no others
chosen : {A : Type 0} (test : Bool) (x y : A) → cond test (Some x) None ≡ Some y → (test ≡ true) × (x ≡ y)
chosen true x y e = (refl, cc)
chosen false x y e = absurd cc

front_spelled : (front : List ℕ) → ReadsSpelled (λ (u : Unit {0}). front) (front_at front) (λ u. Unit {0})
front_spelled front =
    meant_spelled (λ (u : Unit {0}). front) (λ u. Unit {0})
    (λ found. cond (pointwise nat_eq found front) (Some tt) None) (raw_spelled (length front))
    (λ found u fits e. (same_text found front (sym (chosen (pointwise nat_eq found front) tt u e).0), tt))

-- .. and what is read as one is spelled so
record_body_spelled : ReadsSpelled record_body record_body_at IsRecord
unfolding record_body record_body_at texts_at
record_body_spelled =
    made_spelled record_body IsRecord (λ (p : Unit {0} × Texts). record_from p.1)
    (both_spelled (front_spelled (67 ∷ 77 ∷ 84 ∷ 49 ∷ []))
    (both_spelled text_reads_spelled (both_spelled text_reads_spelled (both_spelled text_reads_spelled
    (both_spelled text_reads_spelled text_reads_spelled)))))
    (λ p fits. (
      refl,
      record {
        unit = fits.1.0;
        class = fits.1.1.0;
        rule = fits.1.1.1.0;
        input = fits.1.1.1.1.0;
        output = fits.1.1.1.1.1;
      },
    ))

-- bytes with the digest of the rest at their end have one rest
one_body : (a b : List ℕ) → a ++ sha256 a ≡ b ++ sha256 b → a ≡ b
one_body a b e =
    let long : length b ≡ length a =
    omega (arith, ap length e, length-append a (sha256 a), length-append b (sha256 b), length-sha256 a, length-sha256 b) in
    sym (take_at a (sha256 a) (length a) refl) ∙ ap (take (length a)) e ∙ take_at b (sha256 b) (length a) long

-- what is read of the bytes before their digest
record_found : (bytes body : List ℕ) (run : ToolRecord) → IsBytes bytes → bytes ≡ body ++ sha256 body
    → all_of (record_body_at body) ≡ Some run → ReadsRecord (Some run) bytes
unfolding record_file
record_found bytes body run cells is read =
    let front = IsBytes-append_left body (sha256 body) (subst IsBytes is cells) in
    let at = whole_is (record_body_at body) run read in
    let spelled : body ≡ record_body run =
    (record_body_spelled.takes body run [] front at).parts ∙ append-nil (record_body run) in
    (record_body_spelled.fits body run [] front at, is ∙ ap (λ (b : List ℕ). b ++ sha256 b) spelled)

-- nothing is read of them
no_body : (bytes body : List ℕ) → bytes ≡ body ++ sha256 body → all_of (record_body_at body) ≡ None → ReadsRecord None bytes
unfolding record_file
no_body bytes body is none = λ run fits spelled.
    let same : record_body run ≡ body = one_body (record_body run) body (sym spelled ∙ is) in
    let again : record_body_at body ≡ Some (run, []) =
    ap record_body_at (sym same ∙ sym (append-nil (record_body run))) ∙ (record_body_again run fits).again [] in
    let bad : None ≡ Some run = sym none ∙ ap all_of again in
    absurd cc

-- there is no digest
pub no_digest : (bytes : List ℕ) → ((body : List ℕ) → bytes ≡ body ++ sha256 body → ⊥) → ReadsRecord None bytes
unfolding record_file
no_digest bytes never = λ run fits spelled. never (record_body run) spelled

-- what is found is what the steps read
pub by_steps : (bytes : List ℕ) (found : Option ToolRecord) → IsBytes bytes → ReadsRecord found bytes
    → found ≡ all_of (record_at bytes)
by_steps bytes (Some run) cells reads =
    sym (ap (λ (b : List ℕ). all_of (record_at b)) (reads.1 ∙ sym (append-nil (record_file run)))
    ∙ ap all_of ((record_again run reads.0).again []))
by_steps bytes None cells never = by_value (all_of (record_at bytes)) refl
  where
    by_value : (o : Option ToolRecord) → all_of (record_at bytes) ≡ o → None ≡ o
    by_value None e = refl
    by_value (Some run) e =
        let at = whole_is (record_at bytes) run e in
        absurd (never run (record_spelled.fits bytes run [] cells at)
        ((record_spelled.takes bytes run [] cells at).parts ∙ append-nil (record_file run)))

-- what is found before a digest is the record that all the bytes are
pub found_so : (bytes body : List ℕ) (found : Option ToolRecord) → IsBytes bytes → bytes ≡ body ++ sha256 body
    → found ≡ all_of (record_body_at body) → ReadsRecord found bytes
found_so bytes body (Some run) cells is read = record_found bytes body run cells is (sym read)
found_so bytes body None cells is read = no_body bytes body is (sym read)
