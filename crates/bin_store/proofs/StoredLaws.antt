-- The interface that is stored under a hash is the one that stands whole there.
use Rattle.std.proofs.Common.{◌≡◌, ◌∙◌, ap, sym, subst, refl, inl, inr, ℕ, ◌<◌, ◌≤◌, Bool, true, false, cond, List, ◌∷◌, ◌++◌, length, take, drop, take_all, Option, Some, None, arith}
use Rattle.std.specs.Prelude.{◌&&◌, nat_eq, nat_le, is_some}
use Rattle.std.specs.Cmp.Lexicographic.{pointwise, nat_list_eq_equiv, same_text}
use Rattle.std.specs.FinMap.{get, insert}
use Rattle.cm_base.specs.Files.{Files, Told, told, front_read}
use Rattle.cm_base.specs.declared.record.Pid.{Pid}
use Rattle.std.proofs.lemmas.Bool.{cases_lt, leb-true, le-leb}
use Rattle.std.proofs.lemmas.List.{take_at, drop_at, length-take, take-append-drop}
use Rattle.cm_bytes.specs.Fields.{IsBytes, u32_of, text_of}
use Rattle.cm_bytes.proofs.Fields.{length-u32_of}
use Rattle.cm_bytes.specs.Hashes.{hash_of}
use Rattle.cm_bytes.proofs.Hashes.{pid_text-injective, IsBytes-hash_of}
use Rattle.bin_formats.specs.Format.{interface_file}
use Rattle.bin_store.specs.Paths.{interface_path}
use Rattle.bin_store.specs.Whole.{IsWholeInterface}
use Rattle.bin_formats.proofs.Formats.{length-interface_file}
use Rattle.bin_store.specs.Stored.{interface_in, interface_found, stored_interface, with_interface}

-- the interface stands behind the first eight bytes of its file
pub drop-interface_file : (text : List ℕ) → drop 8 (interface_file text) ≡ text
unfolding interface_file text_of
drop-interface_file text = drop_at (u32_of (length text)) text 4 (length-u32_of (length text))

-- hashes with the same bytes are one
pid_is : (a b : Pid) → a.bytes ≡ b.bytes → a ≡ b
pid_is a b e = ap (λ (bytes : List ℕ). let made : Pid = record { bytes = bytes } in made) e

-- a hash, some bytes and an interface: that the bytes are its file and that it has this hash
pub record IsInterfaceIn (pid : Pid) (bytes text : List ℕ) : Type 0 where
  pub spelled : bytes ≡ interface_file text
  pub small : length bytes ≤ 1048584
  pub hash : pid ≡ hash_of text

-- where three tests choose a value, each holds
tests_hold : (a b c : Bool) (x y : List ℕ) → cond (a && (b && c)) (Some x) None ≡ Some y
    → (a ≡ true) × (b ≡ true) × (c ≡ true) × (x ≡ y)
tests_hold true true true x y e = (refl, refl, refl, cc)
tests_hold true true false x y e = absurd cc
tests_hold true false c x y e = absurd cc
tests_hold false b c x y e = absurd cc

-- what the definition finds is so
pub interface_in-is : (hash : Pid) (bytes text : List ℕ) → interface_in hash bytes ≡ Some text
    → IsInterfaceIn hash bytes text
unfolding interface_in
interface_in-is hash bytes text e =
    let held = tests_hold (nat_le (length bytes) 1048584) (pointwise nat_eq bytes (interface_file (drop 8 bytes)))
    (pointwise nat_eq (hash_of (drop 8 bytes)).bytes hash.bytes) (drop 8 bytes) text e in
    subst (IsInterfaceIn hash bytes) held.3 (record {
      spelled = same_text bytes (interface_file (drop 8 bytes)) (sym held.1);
      small = leb-true (length bytes) 1048584 held.0;
      hash = sym (pid_is (hash_of (drop 8 bytes)) hash (same_text (hash_of (drop 8 bytes)).bytes hash.bytes
          (sym held.2)));
    })

-- where it is so, the three tests hold
same_tests : (bytes text : List ℕ) (hash : Pid) → bytes ≡ interface_file text → length bytes ≤ 1048584
    → hash ≡ hash_of text
    → drop 8 bytes ≡ text → interface_in hash bytes ≡ Some text
unfolding interface_in
same_tests bytes text hash spelled small is back =
    let one : nat_le (length bytes) 1048584 ≡ true = le-leb (length bytes) 1048584 small in
    let two : pointwise nat_eq bytes (interface_file (drop 8 bytes)) ≡ true =
    ap (λ (t : List ℕ). pointwise nat_eq bytes (interface_file t)) back
    ∙ ap (λ (f : List ℕ). pointwise nat_eq bytes f) (sym spelled) ∙ nat_list_eq_equiv.refl bytes in
    let three : pointwise nat_eq (hash_of (drop 8 bytes)).bytes hash.bytes ≡ true =
    ap (λ (t : List ℕ). pointwise nat_eq (hash_of t).bytes hash.bytes) back
    ∙ ap (λ (h : Pid). pointwise nat_eq h.bytes hash.bytes) (sym is) ∙ nat_list_eq_equiv.refl hash.bytes in
    rw (one, two, three) (ap Some back)

-- what is so is what the definition finds
pub interface_in-of : (hash : Pid) (bytes text : List ℕ) → IsInterfaceIn hash bytes text
    → interface_in hash bytes ≡ Some text
interface_in-of hash bytes text is =
    same_tests bytes text hash is.spelled is.small is.hash (ap (drop 8) is.spelled ∙ drop-interface_file text)

-- what is stored under a hash stands whole at its path
pub stored-whole : (files : Files) (hash : Pid) (text : List ℕ) → stored_interface files hash ≡ Some text
    → (get files (interface_path hash) ≡ Some (interface_file text)) × (hash ≡ hash_of text)
    × IsWholeInterface (interface_path hash) (interface_file text) text
unfolding stored_interface
stored-whole files hash text e = found (get files (interface_path hash)) e
  where
    found : (there : Option (List ℕ)) → interface_found hash there ≡ Some text
        → (there ≡ Some (interface_file text)) × (hash ≡ hash_of text)
        × IsWholeInterface (interface_path hash) (interface_file text) text
    found None e = absurd cc
    found (Some bytes) e =
        let is = interface_in-is hash bytes text e in (
          ap Some is.spelled,
          is.hash,
          record {
            spelled = refl;
            small = subst (λ (file : List ℕ). length file ≤ 1048584) is.spelled is.small;
            place = ap interface_path is.hash;
          },
        )

-- what stands whole at the path of a hash is stored under it
pub whole-stored : (files : Files) (hash : Pid) (bytes text : List ℕ) → IsBytes hash.bytes
    → get files (interface_path hash) ≡ Some bytes → IsWholeInterface (interface_path hash) bytes text
    → stored_interface files hash ≡ Some text
unfolding stored_interface interface_path
whole-stored files hash bytes text cells there whole =
    ap (interface_found hash) there
    ∙ interface_in-of hash bytes text (record {
      spelled = whole.spelled;
      small = whole.small;
      hash = pid_text-injective hash (hash_of text) cells (IsBytes-hash_of text) (ap (drop 8) whole.place);
    })

-- an interface of at most 1,048,576 bytes whose file stands is stored under its hash
pub file-stored : (files : Files) (text : List ℕ) → length text ≤ 1048576
    → get files (interface_path (hash_of text)) ≡ Some (interface_file text)
    → stored_interface files (hash_of text) ≡ Some text
unfolding stored_interface
file-stored files text small there =
    ap (interface_found (hash_of text)) there
    ∙ interface_in-of (hash_of text) (interface_file text) text (record {
      spelled = refl;
      small = omega (arith, length-interface_file text);
      hash = refl;
    })

-- ---- how code finds the interface of some bytes

-- it finds none where there can be none
none_unless : (pid : Pid) (bytes : List ℕ) → ((text : List ℕ) → IsInterfaceIn pid bytes text → ⊥)
    → interface_in pid bytes ≡ None
none_unless pid bytes never = by_value (interface_in pid bytes) refl
  where
    by_value : (o : Option (List ℕ)) → interface_in pid bytes ≡ o → o ≡ None
    by_value None e = refl
    by_value (Some text) e = absurd (never text (interface_in-is pid bytes text e))

-- none in too many bytes
pub too_long : (pid : Pid) (bytes : List ℕ) → 1048584 < length bytes → interface_in pid bytes ≡ None
too_long pid bytes lt = none_unless pid bytes (λ text is. omega (arith, is.small))

-- none in too few
pub too_short : (pid : Pid) (bytes : List ℕ) → length bytes < 8 → interface_in pid bytes ≡ None
too_short pid bytes lt = none_unless pid bytes (λ text is. omega
    (arith, ap length is.spelled, length-interface_file text))

-- the eight bytes before an interface in its file
take-interface_file : (text : List ℕ) → take 8 (interface_file text) ≡ 67 ∷ 77 ∷ 69 ∷ 49 ∷ u32_of (length text)
unfolding interface_file text_of
take-interface_file text =
    ap (λ (front : List ℕ). 67 ∷ 77 ∷ 69 ∷ 49 ∷ front) (take_at (u32_of (length text)) text 4 (length-u32_of
    (length text)))

-- the file is those eight bytes and the interface
interface_file-parts : (text : List ℕ) → (67 ∷ 77 ∷ 69 ∷ 49 ∷ u32_of (length text)) ++ text ≡ interface_file text
unfolding interface_file text_of
interface_file-parts text = refl

-- what the code has of the bytes: those before the interface, and those that are it, and what the first have to be
pub record Halves (bytes head text made : List ℕ) : Type 0 where
  pub front : head ≡ take 8 bytes
  pub back : text ≡ drop 8 bytes
  pub made_is : made ≡ 67 ∷ 77 ∷ 69 ∷ 49 ∷ u32_of (length text)

-- what is found is what the code has behind the eight bytes
text_is : {bytes head text made : List ℕ} {pid : Pid} (found : List ℕ) → Halves bytes head text made
    → IsInterfaceIn pid bytes found → text ≡ found
text_is found halves is = halves.back ∙ ap (drop 8) is.spelled ∙ drop-interface_file found

-- none where the first bytes are others
pub head_differs : (pid : Pid) (bytes head text made : List ℕ) → Halves bytes head text made → (head ≡ made → ⊥)
    → interface_in pid bytes ≡ None
head_differs pid bytes head text made halves differ = none_unless pid bytes (λ found is.
    let one = text_is found halves is in
    differ (halves.front ∙ ap (take 8) is.spelled ∙ take-interface_file found
    ∙ ap (λ (t : List ℕ). 67 ∷ 77 ∷ 69 ∷ 49 ∷ u32_of (length t)) (sym one) ∙ sym halves.made_is))

-- none where the hash is another
pub hash_differs : (pid made_pid : Pid) (bytes head text made : List ℕ) → Halves bytes head text made
    → made_pid ≡ hash_of text
    → (made_pid ≡ pid → ⊥) → interface_in pid bytes ≡ None
hash_differs pid made_pid bytes head text made halves hash differ = none_unless pid bytes (λ found is.
    differ (hash ∙ ap hash_of (text_is found halves is) ∙ sym is.hash))

-- the interface where all is as it has to be
pub all_same : (pid made_pid : Pid) (bytes head text made : List ℕ) → Halves bytes head text made
    → length bytes ≤ 1048584
    → head ≡ made → made_pid ≡ hash_of text → made_pid ≡ pid → interface_in pid bytes ≡ Some text
all_same pid made_pid bytes head text made halves small fronts hash pids =
    interface_in-of pid bytes text (record {
      spelled =
          sym (take-append-drop 8 bytes)
          ∙ ap (λ (t : List ℕ). take 8 bytes ++ t) (sym halves.back)
          ∙ ap (λ (t : List ℕ). t ++ text) (sym halves.front ∙ fronts ∙ halves.made_is)
          ∙ interface_file-parts text;
      small = small;
      hash = sym pids ∙ hash;
    })

-- a front of a file of one byte more than an interface file may have is as good as all of it
pub interface_in-front : (pid : Pid) (there : Option (List ℕ))
    → interface_found pid (front_read 1048584 there) ≡ interface_found pid there
interface_in-front pid None = refl
interface_in-front pid (Some bytes) =
    elim (cases_lt 1048584 (length bytes)) [
      | inl more ↦ too_long pid (take 1048585 bytes) (omega (arith, length-take 1048585 bytes))
          ∙ sym (too_long pid bytes more)
      | inr less ↦ ap (interface_in pid) (take_all 1048585 bytes (omega arith))
    ]

-- what was read says what is stored
pub stored_read : (files : Files) (hash : Pid) (path : List ℕ) (file : Option (List ℕ)) → path ≡ interface_path hash
    → file ≡ front_read 1048584 (get files path) → interface_found hash file ≡ stored_interface files hash
unfolding stored_interface
stored_read files hash path file at read =
    ap (interface_found hash) read ∙ interface_in-front hash (get files path)
    ∙ ap (λ (p : List ℕ). interface_found hash (get files p)) at

-- where an interface stands whole, a put leaves everything
pub put_kept : (old new : Option Files) (text : List ℕ) (pid : Pid) (found : Bool) → pid ≡ hash_of text
    → new ≡ old → found ≡ true
    → Told old (λ files. found ≡ is_some (stored_interface files pid))
    → new ≡ told (λ files. with_interface files text) old
unfolding with_interface
put_kept None new text pid found hash same is stands = same
put_kept (Some files) new text pid found hash same is stands =
    let there : is_some (stored_interface files (hash_of text)) ≡ true =
    ap (λ h. is_some (stored_interface files h)) (sym hash) ∙ sym (stands files refl) ∙ is in
    rw there same

-- where none does, it writes the file
pub put_written : (old middle new : Option Files) (text path file : List ℕ) (pid : Pid) (found : Bool)
    → pid ≡ hash_of text
    → path ≡ interface_path pid → file ≡ interface_file text → middle ≡ old → found ≡ false
    → Told old (λ files. found ≡ is_some (stored_interface files pid))
    → new ≡ told (λ files. insert files path file) middle → new ≡ told (λ files. with_interface files text) old
unfolding with_interface
put_written old middle new text path file pid found hash at bytes same is stands put =
    put ∙ ap (told (λ files. insert files path file)) same ∙ by_told old stands
  where
    by_told : (old : Option Files) → Told old (λ files. found ≡ is_some (stored_interface files pid))
        → told (λ (files : Files). insert files path file) old
        ≡ told (λ files. cond (is_some (stored_interface files (hash_of text))) files (insert files
        (interface_path (hash_of text)) (interface_file text))) old
    by_told None stands = refl
    by_told (Some files) stands =
        let none : is_some (stored_interface files (hash_of text)) ≡ false =
        ap (λ h. is_some (stored_interface files h)) (sym hash) ∙ sym (stands files refl) ∙ is in
        rw none (ap (λ (f : Files). Some f) (ap (λ p. insert files p file) (at ∙ ap interface_path hash)
        ∙ ap (insert files (interface_path (hash_of text))) bytes))
