-- How bindings joined by `and` are read, a step at a time.
use Rattle.std.proofs.Common.{◌≡◌, ℕ, ◌<◌, ◌≤◌, List, [], ◌∷◌, Option, Some, None, Bool, true, false, is_some, refl, sym, ap, ◌∙◌, drop, length, arith}
use Rattle.grammars.specs.Grammar.{Grammar, End, begins, head_or}
use Rattle.grammars.specs.Reading.{Out, chain, read, end_of, left_of}
use Rattle.grammars.proofs.Complete.{goes, stops}
use Rattle.grammars.proofs.Rounds.{many_go, many_end, not_longer}
use Rattle.sml_lexer.specs.declared.lexeme.Lexeme.{Lexeme}
use Rattle.sml_trees.specs.declared.name.Name.{Name}
use Rattle.phrase_reading.specs.Reads.{Stops}
use Rattle.phrase_reading.specs.Words.{g, is, made, named}
use Rattle.phrase_reading.specs.declared.stop.Stop.{Stop}
use Rattle.phrase_reading.specs.declared.stop.Stop.TheVariants as stop
use Rattle.sml_lexer.specs.declared.words.Word.TheVariants as w
use Rattle.phrase_reading.proofs.NameSteps.{if_taken_go, if_taken_stop, if_mark_go, if_mark_stop}
use Rattle.phrase_reading.specs.Names.{if_taken, if_mark}
use Rattle.signature_parser.specs.Bound.{next_name}
use Rattle.signature_parser.specs.Joined.{module_name_of, is_module_name, module_name, goes_on, next_name_after, next_binding, bindings_from, joined_more}
use Rattle.signature_parser.specs.declared.joined.Joined.{Joined}

-- ---- the name of another binding

-- a name that was read is the next binding's
abbrev pub found_name : Out Lexeme Name → Out Lexeme (Option Name)
found_name o = chain o (λ called rest. Out.out (End.whole (Some called)) rest)

pub joined_go : (joined : Bool) (xs : List Lexeme) → joined ≡ true → begins is_module_name (head_or xs None) ≡ true
    → read (next_name joined) xs ≡ found_name (read module_name xs)
joined_go true xs j h = if_taken_go module_name_of named (λ called. Grammar.pure (Some called)) (Grammar.pure None) xs h
joined_go false xs j h = absurd (cc)

pub joined_end : (joined : Bool) (xs : List Lexeme) → joined ≡ true → begins is_module_name (head_or xs None) ≡ false
    → read (next_name joined) xs ≡ Out.out (End.whole None) xs
joined_end true xs j h = if_taken_stop module_name_of named (λ called. Grammar.pure (Some called)) (Grammar.pure None) xs h
joined_end false xs j h = absurd (cc)

pub apart_go : (joined : Bool) (xs : List Lexeme) → joined ≡ false → begins (is w.And) (head_or xs None) ≡ true
    → read (next_name joined) xs ≡ found_name (read module_name (drop 1 xs))
apart_go true xs j h = absurd (cc)
apart_go false xs j h =
    if_mark_go w.And (Grammar.bind module_name (λ called. Grammar.pure (Some called))) (Grammar.pure None) xs h

pub apart_end : (joined : Bool) (xs : List Lexeme) → joined ≡ false → begins (is w.And) (head_or xs None) ≡ false
    → read (next_name joined) xs ≡ Out.out (End.whole None) xs
apart_end true xs j h = absurd (cc)
apart_end false xs j h =
    if_mark_stop w.And (Grammar.bind module_name (λ called. Grammar.pure (Some called))) (Grammar.pure None) xs h

pub ruleset next_name_steps = (joined_go, joined_end, apart_go, apart_end)

-- the same by the first lexeme, which a round takes
name_after : (joined : Bool) (x : Lexeme) (xs : List Lexeme) → goes_on joined x ≡ true
    → read (next_name joined) (x ∷ xs) ≡ found_name (read (next_name_after joined x) xs)
unfolding if_taken if_mark
name_after true x xs h = goes (is_module_name x) _ _ h
name_after false x xs h = goes (is w.And x) _ _ h

name_none : (joined : Bool) (x : Lexeme) (xs : List Lexeme) → goes_on joined x ≡ false
    → read (next_name joined) (x ∷ xs) ≡ Out.out (End.whole None) (x ∷ xs)
unfolding if_taken if_mark
name_none true x xs h = stops (is_module_name x) _ _ h
name_none false x xs h = stops (is w.And x) _ _ h

name_empty : (joined : Bool) → read (next_name joined) [] ≡ Out.out (End.whole None) []
unfolding if_taken if_mark
name_empty true = refl
name_empty false = refl

-- ---- bindings

module _ {A : Type 0} (each : Name → g (Joined A)) where
  -- the binding of a name, and those behind it; or nothing more
  abbrev by_name : Joined (List A) → Option Name → List Lexeme → Out Lexeme (Joined (List A))
  by_name found (Some called) rest =
      chain (read (each called) rest) (λ next rest. read (bindings_from each (joined_more found next)) rest)
  by_name found None rest = Out.out (End.whole found) rest

  -- what goes on with a binding's name
  regroup : (found : Joined (List A)) (o : Out Lexeme Name)
      → chain (chain o (λ called rest. chain (read (each called) rest) (λ next rest. Out.out (End.whole (joined_more found next)) rest)))
      (λ more rest. read (bindings_from each more) rest)
      ≡ chain (found_name o) (by_name found)
  regroup found (Out.out (End.whole called) rest) = inner (read (each called) rest)
    where
      inner : (p : Out Lexeme (Joined A))
          → chain (chain p (λ next rest. Out.out (End.whole (joined_more found next)) rest)) (λ more rest. read (bindings_from each more) rest)
          ≡ chain p (λ next rest. read (bindings_from each (joined_more found next)) rest)
      inner (Out.out (End.whole next) rest) = refl
      inner (Out.out End.refused rest) = refl
      inner (Out.out End.deep rest) = refl
  regroup found (Out.out End.refused rest) = refl
  regroup found (Out.out End.deep rest) = refl

  by_first : (found : Joined (List A)) (x : Lexeme) (xs : List Lexeme) (b : Bool) → goes_on found.joined x ≡ b
      → read (bindings_from each found) (x ∷ xs) ≡ chain (read (next_name found.joined) (x ∷ xs)) (by_name found)
  unfolding bindings_from next_binding
  by_first found x xs true h =
      many_go (λ found x. goes_on found.joined x) (next_binding each) found x xs h
      ∙ regroup found (read (next_name_after found.joined x) xs)
      ∙ sym (ap (λ (o : Out Lexeme (Option Name)). chain o (by_name found)) (name_after found.joined x xs h))
  by_first found x xs false h =
      many_end (λ found x. goes_on found.joined x) (next_binding each) found (x ∷ xs) h
      ∙ sym (ap (λ (o : Out Lexeme (Option Name)). chain o (by_name found)) (name_none found.joined x xs h))

  bindings_step : (found : Joined (List A)) (xs : List Lexeme)
      → read (bindings_from each found) xs ≡ chain (read (next_name found.joined) xs) (by_name found)
  unfolding bindings_from
  bindings_step found [] = sym (ap (λ (o : Out Lexeme (Option Name)). chain o (by_name found)) (name_empty found.joined))
  bindings_step found (x ∷ xs) = by_first found x xs (goes_on found.joined x) refl

  -- Another binding goes on.
  pub bindings_go : (found : Joined (List A)) (called : Name) (xs rest : List Lexeme)
      → read (next_name found.joined) xs ≡ Out.out (End.whole (Some called)) rest
      → read (bindings_from each found) xs
      ≡ chain (read (each called) rest) (λ next rest. read (bindings_from each (joined_more found next)) rest)
  bindings_go found called xs rest h =
      bindings_step found xs ∙ ap (λ (o : Out Lexeme (Option Name)). chain o (by_name found)) h

  -- None does.
  pub bindings_end : (found : Joined (List A)) (xs rest : List Lexeme)
      → read (next_name found.joined) xs ≡ Out.out (End.whole None) rest
      → read (bindings_from each found) xs ≡ Out.out (End.whole found) rest
  bindings_end found xs rest h =
      bindings_step found xs ∙ ap (λ (o : Out Lexeme (Option Name)). chain o (by_name found)) h

  -- What stands behind the `and` is no name.
  pub bindings_refused : (found : Joined (List A)) (xs rest : List Lexeme)
      → read (next_name found.joined) xs ≡ Out.out End.refused rest
      → read (bindings_from each found) xs ≡ Out.out End.refused rest
  bindings_refused found xs rest h =
      bindings_step found xs ∙ ap (λ (o : Out Lexeme (Option Name)). chain o (by_name found)) h

  pub bindings_deep : (found : Joined (List A)) (xs rest : List Lexeme)
      → read (next_name found.joined) xs ≡ Out.out End.deep rest
      → read (bindings_from each found) xs ≡ Out.out End.deep rest
  bindings_deep found xs rest h =
      bindings_step found xs ∙ ap (λ (o : Out Lexeme (Option Name)). chain o (by_name found)) h

-- A round of a loop over bindings: what is left to read goes on from one binding more.
pub binding_kept : {A : Type 0} (each : Name → g (Joined A)) (found : Joined (List A)) (called : Name) (next : Joined A)
    (xs mid rest : List Lexeme) (target : Out Lexeme (Joined (List A)))
    → read (next_name found.joined) xs ≡ Out.out (End.whole (Some called)) mid
    → read (each called) mid ≡ Out.out (End.whole next) rest → read (bindings_from each found) xs ≡ target
    → read (bindings_from each (joined_more found next)) rest ≡ target
binding_kept {A} each found called next xs mid rest target h is so =
    sym (bindings_go each found called xs mid h
    ∙ ap (λ (o : Out Lexeme (Joined A)). chain o (λ next rest. read (bindings_from each (joined_more found next)) rest)) is)
    ∙ so

-- A binding that isn't whole ends all.
pub binding_stops : {A : Type 0} (each : Name → g (Joined A)) (found : Joined (List A)) (called : Name) (why : Stop)
    (xs mid rest : List Lexeme) (target : Out Lexeme (Joined (List A)))
    → read (next_name found.joined) xs ≡ Out.out (End.whole (Some called)) mid → Stops why (read (each called) mid) rest
    → read (bindings_from each found) xs ≡ target → Stops why target rest
binding_stops {A} each found called stop.Refused xs mid rest target h is so =
    sym so ∙ bindings_go each found called xs mid h
    ∙ ap (λ (o : Out Lexeme (Joined A)). chain o (λ next rest. read (bindings_from each (joined_more found next)) rest)) is
binding_stops {A} each found called stop.TooDeep xs mid rest target h is so =
    sym so ∙ bindings_go each found called xs mid h
    ∙ ap (λ (o : Out Lexeme (Joined A)). chain o (λ next rest. read (bindings_from each (joined_more found next)) rest)) is
binding_stops each found called stop.NoMemory xs mid rest target h is so = tt

-- A name of another binding is a lexeme less.
some_name : (joined : Bool) (called : Name) (x : Lexeme) (xs rest : List Lexeme) (b : Bool) → goes_on joined x ≡ b
    → read (next_name joined) (x ∷ xs) ≡ Out.out (End.whole (Some called)) rest → length rest ≤ length xs
some_name joined called x xs rest true h is =
    not_longer (Grammar.bind (next_name_after joined x) (λ called. Grammar.pure (Some called)))
    (End.whole (Some called)) xs rest (sym (name_after joined x xs h) ∙ is)
some_name joined called x xs rest false h is =
    let no : End.whole None ≡ End.whole (Some called) = ap end_of (sym (name_none joined x xs h) ∙ is) in absurd (cc)

pub name_less : (joined : Bool) (called : Name) (xs rest : List Lexeme)
    → read (next_name joined) xs ≡ Out.out (End.whole (Some called)) rest → length rest < length xs
name_less joined called [] rest is =
    let no : End.whole None ≡ End.whole (Some called) = ap end_of (sym (name_empty joined) ∙ is) in absurd (cc)
name_less joined called (x ∷ xs) rest is =
    let le = some_name joined called x xs rest (goes_on joined x) refl is in omega (arith, le)

-- A round of a loop that reads such a name, and the binding behind it, leaves less.
pub binding_less : {A : Type 0} (joined : Bool) (called : Name) (each : g (Joined A)) (next : Joined A)
    (xs mid rest : List Lexeme) → read (next_name joined) xs ≡ Out.out (End.whole (Some called)) mid
    → read each mid ≡ Out.out (End.whole next) rest → length rest < length xs
binding_less joined called each next xs mid rest h is =
    let less = name_less joined called xs mid h in
    let le = not_longer each (End.whole next) mid rest is in
    omega (arith, less, le)

pub ruleset bindings_steps = (bindings_go, bindings_end, bindings_refused, bindings_deep, name_less, not_longer)
