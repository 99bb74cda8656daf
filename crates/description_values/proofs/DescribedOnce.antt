-- The one answer of a text is that of `description_of`.
use Rattle.std.proofs.Common.{◌≡◌, ◌≤◌, ◌<◌, ◌-◌, ℕ, List, [], ◌∷◌, length, take, Bool, true, false, Result, Ok, Err, inl, inr, refl, ap, arith, if◌then◌else◌}
use Rattle.std.specs.Prelude.{nat_lt}
use Rattle.std.proofs.lemmas.Bool.Decides.{nat_tests}
use Rattle.cm_base.specs.Calls.{Gives}
use Rattle.cm_base.specs.Diags.{whole_file}
use Rattle.cm_base.specs.declared.diag.Diag.{Diag}
use Rattle.cm_base.specs.declared.fault.Fault.{Fault}
use Rattle.cm_base.specs.declared.fault.Fault.TheVariants as fault
use Rattle.grammars.specs.Grammar.{End}
use Rattle.grammars.specs.Reading.{Out, read}
use Rattle.grammars.proofs.Texts.{phrase_read, refused_read, more_read, too_deep_read}
use Rattle.cm_lexer.specs.Spelling.{slice_of}
use Rattle.cm_lexer.specs.Tokens.{scan_of}
use Rattle.cm_lexer.specs.declared.token.Token.{Token}
use Rattle.cm_conditions.specs.Grammar.{condition}
use Rattle.cm_conditions.specs.Lexemes.{lexemes_of}
use Rattle.cm_conditions.specs.declared.cond.Cond.{Cond}
use Rattle.cm_conditions.specs.declared.lexeme.Lexeme.{Lexeme}
use Rattle.cm_description.specs.Words.{place}
use Rattle.cm_description.specs.Grammar.{description}
use Rattle.cm_description.specs.Answers.{ReadsDescription, refusal_at, stop_place, is_end, checked}
use Rattle.description_values.specs.Described.{condition_refusal, last_refusal, by_reading, description_of, IsDescribed}
use Rattle.cm_description.specs.Seen.{ShowsBad, ShowsEnd}
use Rattle.cm_description.specs.declared.description.Description.{Description}
use Rattle.cm_description.proofs.OneAnswer.{one_answer}
use Rattle.cm_description.proofs.TextLaws.{one_description}
use Rattle.cm_description.proofs.Wholes.{is_whole, is_more, is_refused, taken_two, bad_answer, none_answer, checked_answer}

-- what a definition gives, as the answer of a call
abbrev answer : {A : Type 0} → Result A Diag → Result A Fault
answer (Ok value) = Ok value
answer (Err diag) = Err (fault.Diag diag)

gives_answer : {A : Type 0} (m : Result A Diag) → Gives (answer m) m
gives_answer (Ok value) = refl
gives_answer (Err diag) = refl

module _ (file text : List ℕ) where
  -- what is wrong with a directive and its rest, by how its condition is read
  bad_by : (x rest : Token) (o : Out Lexeme Cond) → read (condition 128) (lexemes_of (slice_of text rest)) ≡ o
      → ShowsBad file text x rest (condition_refusal (place file x) o)
  bad_by x rest (Out.out (End.whole cond) []) h =
      inr (cond, phrase_read (condition 128) (lexemes_of (slice_of text rest)) cond h, refl)
  bad_by x rest (Out.out (End.whole cond) (y ∷ more)) h =
      let xs = lexemes_of (slice_of text rest) in
      inl (inl (length xs - length (y ∷ more), refl, more_read (condition 128) xs cond y more h))
  bad_by x rest (Out.out End.refused more) h =
      let xs = lexemes_of (slice_of text rest) in
      inl (inl (length xs - length more, refl, refused_read (condition 128) xs more h))
  bad_by x rest (Out.out End.deep more) h =
      let xs = lexemes_of (slice_of text rest) in
      inl (inr (length xs - length more, refl, too_deep_read (condition 128) xs more h))

  -- .. of the last two tokens
  shows_end : (taken : List Token) → 2 ≤ length taken → ShowsEnd file text taken (last_refusal file text taken)
  shows_end [] two = absurd (omega (arith, two))
  shows_end (x ∷ []) two = absurd (omega (arith, two))
  shows_end (x ∷ rest ∷ []) two =
      (x, rest, ([], refl), bad_by x rest (read (condition 128) (lexemes_of (slice_of text rest))) refl)
  shows_end (x ∷ y ∷ z ∷ more) two =
      let last = shows_end (y ∷ z ∷ more) (omega arith) in
      (last.0, last.1, (x ∷ last.2.0, ap (λ (l : List Token). x ∷ l) last.2.1), last.3)

  -- a text whose tokens are a description, by whether something is left
  whole_reads : (d : Description) (rest : List Token) → length text ≤ 65536
      → read (description file text) (scan_of text).tokens ≡ Out.out (End.whole d) rest
      → (b : Bool) → is_end rest (scan_of text).wrong ≡ b
      → ReadsDescription file text
      (answer (if b then checked file (scan_of text).tokens d
      else Err (refusal_at 2 (stop_place file (scan_of text) rest))))
  whole_reads d rest small h true e =
      checked_answer file text d (answer (checked file (scan_of text).tokens d)) small
      (is_whole file text d rest (scan_of text).wrong refl h e) (gives_answer (checked file (scan_of text).tokens d))
  whole_reads d rest small h false e =
      none_answer file text (fault.Diag (refusal_at 2 (stop_place file (scan_of text) rest))) small
      (is_more file text d rest (scan_of text).wrong (refusal_at 2 (stop_place file (scan_of text) rest)) refl h e refl)

  -- a text within its size, by how its tokens are read
  reads : (o : Out Token Description) → length text ≤ 65536
      → read (description file text) (scan_of text).tokens ≡ o
      → ReadsDescription file text (answer (by_reading file text o))
  reads (Out.out (End.whole d) rest) small h =
      whole_reads d rest small h (is_end rest (scan_of text).wrong) refl
  reads (Out.out End.refused rest) small h =
      none_answer file text (fault.Diag (refusal_at 2 (stop_place file (scan_of text) rest))) small
      (is_refused file text rest (refusal_at 2 (stop_place file (scan_of text) rest)) h refl)
  reads (Out.out End.deep rest) small h =
      let taken = take (length (scan_of text).tokens - length rest) (scan_of text).tokens in
      none_answer file text (fault.Diag (last_refusal file text taken)) small
      (bad_answer file text (scan_of text) (scan_of text).tokens refl refl rest (last_refusal file text taken) h
      (shows_end taken (taken_two file text (scan_of text) (scan_of text).tokens refl refl rest h)))

  -- .. and of any size
  sized : (b : Bool) → nat_lt 65536 (length text) ≡ b
      → ReadsDescription file text
      (answer (if b then Err (whole_file 12 file)
      else by_reading file text (read (description file text) (scan_of text).tokens)))
  sized true e =
      let large : 65536 < length text = grind (arith, nat_tests) in inl (large, refl)
  sized false e =
      let small : length text ≤ 65536 = grind (arith, nat_tests) in
      reads (read (description file text) (scan_of text).tokens) small refl

  -- two answers are one
  same_answer : (r : Result Description Fault) (m : Result Description Diag)
      → ReadsDescription file text (answer m) → ReadsDescription file text r → Gives r m
  same_answer (Ok d) (Ok e) known is = ap Ok (one_description file text e d known.1 is.1)
  same_answer (Ok d) (Err diag) known is = absurd ((one_answer file text diag known).1 d is)
  same_answer (Err (fault.Diag diag)) (Ok e) known is = absurd ((one_answer file text diag is).1 e known)
  same_answer (Err (fault.Diag diag)) (Err other) known is = ap Err ((one_answer file text other known).0 diag is)
  same_answer (Err fault.NoMemory) m known is = tt

reads_described : (file text : List ℕ) → ReadsDescription file text (answer (description_of file text))
unfolding description_of
reads_described file text = sized file text (nat_lt 65536 (length text)) refl

pub described_once : IsDescribed
described_once file text r is = same_answer file text r (description_of file text) (reads_described file text) is
