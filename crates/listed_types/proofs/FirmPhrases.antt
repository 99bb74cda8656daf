-- Whether phrases are firm, part by part.
use Rattle.std.proofs.Common.{◌≡◌, ℕ, List, [], ◌∷◌, map, refl, sym, ap, ◌∙◌, subst, Option, Some, None, Bool, true, false, not}
use Rattle.std.specs.Prelude.{Result, Ok, Err, IfOk}
use Rattle.std.specs.Option.{option_map}
use Rattle.sml_trees.specs.declared.name.At.{At}
use Rattle.sml_trees.specs.declared.name.Name.{Name}
use Rattle.sml_trees.specs.declared.name.LongName.{LongName}
use Rattle.sml_trees.specs.declared.ty.Ty.{Ty as Phrase}
use Rattle.sml_trees.specs.declared.ty.TyField.{TyField}
use Rattle.semantic_objects.specs.declared.entry.TypeFn.{TypeFn}
use Rattle.semantic_objects.specs.declared.entry.TypeStr.{TypeStr}
use Rattle.semantic_objects.specs.declared.entry.ValueEntry.{ValueEntry}
use Rattle.semantic_objects.specs.declared.node.TypeNode.{TypeNode}
use Rattle.semantic_objects.specs.Nodes.{root}
use Rattle.semantic_objects.specs.Environments.{types}
use Rattle.env_parts.specs.Types.{holds_free}
use Rattle.sml_modules.specs.Items.{function_of}
use Rattle.sml_modules.specs.Graphs.{Graph}
use Rattle.bare_phrases.specs.Phrases.{TyPhrase, TyFields, TyPhrases}
use Rattle.bare_phrases.specs.PhraseOf.{ty_phrase, ty_phrases, ty_field_phrase, ty_fields}
use Rattle.static_semantics.specs.Inferring.{found_at}
use Rattle.core_scopes.specs.Scopes.{Bindings, seen}
use Rattle.listed_types.specs.Firm.{any_free, is_firm_found, IsFirm, AreFirmFields, AreFirmArgs, FirmIn, Where}
use Rattle.listed_types.proofs.Firmness.{firm_root}

pub where_true : {P : Type 0} (b : Bool) → b ≡ true → Where b P → P
where_true true e h = h
where_true false e h = absurd (cc)

pub where_is : {P : Type 0} (b : Bool) → (b ≡ true → P) → Where b P
where_is true h = h refl
where_is false h = tt

where_more : {P Q : Type 0} (b : Bool) → (P → Q) → Where b P → Where b Q
where_more true f h = f h
where_more false f h = tt

ok_more : {E : Type 0} {P Q : Type 0} (r : Result Bool E) → (P → Q) → IfOk r (λ is. Where is P)
    → IfOk r (λ is. Where is Q)
ok_more (Ok is) f h = where_more is f h
ok_more (Err e) f h = tt

-- ---- type names

name_firm : (o : Option TypeStr) (f : TypeFn) (xs : List TypeNode) → Some f ≡ option_map function_of o
    → root xs ≡ f.body → any_free xs ≡ false → is_firm_found o ≡ true
name_firm None f xs e h k = absurd (cc)
name_firm (Some found) f xs e h k =
    let same : f ≡ found.function = cc in
    ap not (ap (λ (z : TypeFn). holds_free z.body) (sym same) ∙ ap holds_free (sym h) ∙ firm_root xs k)

none_firm : (o : Option TypeStr) → None ≡ option_map function_of o → is_firm_found o ≡ true
none_firm None e = refl
none_firm (Some found) e = absurd (cc)

not_true : (b : Bool) → not b ≡ true → b ≡ false
not_true true h = absurd (cc)
not_true false h = refl

module _ {V : Type 0} (g : Graph) (sc : Bindings V) where
  abbrev FirmName : LongName → Type 0
  FirmName long = (read : V → ValueEntry) → is_firm_found (found_at types long.parts (seen g read sc)) ≡ true

  pub name_is : (long : LongName) (parts : List (List ℕ)) (o : Option TypeFn) (f : TypeFn) (xs : List TypeNode)
      (b : Bool) → parts ≡ long.parts
      → ((read : V → ValueEntry) → o ≡ option_map function_of (found_at types parts (seen g read sc)))
      → o ≡ Some f → root xs ≡ f.body → b ≡ not (any_free xs) → Where b (FirmName long)
  name_is long parts o f xs b p is e h k = where_is b (λ l read.
      subst (λ ps. is_firm_found (found_at types ps (seen g read sc)) ≡ true) p
      (name_firm (found_at types parts (seen g read sc)) f xs (sym e ∙ is read) h
      (not_true (any_free xs) (sym k ∙ l))))

  pub none_is : (long : LongName) (parts : List (List ℕ)) (o : Option TypeFn) → parts ≡ long.parts
      → ((read : V → ValueEntry) → o ≡ option_map function_of (found_at types parts (seen g read sc)))
      → o ≡ None → FirmName long
  none_is long parts o p is e read = subst (λ ps. is_firm_found (found_at types ps (seen g read sc)) ≡ true) p
      (none_firm (found_at types parts (seen g read sc)) (sym e ∙ is read))

  -- ---- phrases

  pub variable_firm : (p : TyPhrase) (name : Name) (at : At) → p ≡ TyPhrase.Var name at → FirmIn g sc p
  variable_firm p name at e read = subst (IsFirm (seen g read sc)) (sym e) tt

  pub record_firm : {E : Type 0} (p : TyPhrase) (fields : TyFields) (at : At) (r : Result Bool E)
      → p ≡ TyPhrase.Record fields at
      → IfOk r (λ are. Where are ((read : V → ValueEntry) → AreFirmFields (seen g read sc) fields))
      → IfOk r (λ is. Where is (FirmIn g sc p))
  record_firm p fields at r e h = ok_more r (λ k read. subst (IsFirm (seen g read sc)) (sym e) (k read)) h

  pub named_firm : {E : Type 0} (p : TyPhrase) (args : TyPhrases) (long : LongName) (at : At) (r : Result Bool E)
      (b : Bool)
      → p ≡ TyPhrase.Named args long at → b ≡ true → Where b (FirmName long)
      → IfOk r (λ are. Where are ((read : V → ValueEntry) → AreFirmArgs (seen g read sc) args))
      → IfOk r (λ is. Where is (FirmIn g sc p))
  named_firm p args long at r b e t n h = ok_more r (λ k read.
      subst (IsFirm (seen g read sc)) (sym e) (where_true b t n read, k read)) h

  pub arrow_firm : {E : Type 0} (p from to : TyPhrase) (at : At) (r : Result Bool E) (b : Bool)
      → p ≡ TyPhrase.Arrow from to at → b ≡ true → Where b (FirmIn g sc from)
      → IfOk r (λ is. Where is (FirmIn g sc to)) → IfOk r (λ is. Where is (FirmIn g sc p))
  arrow_firm p from to at r b e t n h = ok_more r (λ k read.
      subst (IsFirm (seen g read sc)) (sym e) (where_true b t n read, k read)) h

  -- ---- one after another

  abbrev pub ArgsLeft : List Phrase → List Phrase → Type 0
  ArgsLeft args left = (read : V → ValueEntry) → AreFirmArgs (seen g read sc) (ty_phrases (map ty_phrase left))
      → AreFirmArgs (seen g read sc) (ty_phrases (map ty_phrase args))

  pub args_step : (args left rest : List Phrase) (x : Phrase) (b : Bool) → ArgsLeft args left → left ≡ x ∷ rest
      → b ≡ true → Where b (FirmIn g sc (ty_phrase x)) → ArgsLeft args rest
  args_step args left rest x b h e t n read k = h read
      (subst (λ xs. AreFirmArgs (seen g read sc) (ty_phrases (map ty_phrase xs))) (sym e)
      (where_true b t n read, k))

  pub args_end : (args left : List Phrase) → ArgsLeft args left → left ≡ [] → (read : V → ValueEntry)
      → AreFirmArgs (seen g read sc) (ty_phrases (map ty_phrase args))
  args_end args left h e read =
      h read (subst (λ xs. AreFirmArgs (seen g read sc) (ty_phrases (map ty_phrase xs))) (sym e) tt)

  abbrev pub FieldsLeft : List TyField → List TyField → Type 0
  FieldsLeft fields left = (read : V → ValueEntry)
      → AreFirmFields (seen g read sc) (ty_fields (map ty_field_phrase left))
      → AreFirmFields (seen g read sc) (ty_fields (map ty_field_phrase fields))

  pub fields_step : (fields left rest : List TyField) (x : TyField) (p : TyPhrase) (b : Bool)
      → FieldsLeft fields left → left ≡ x ∷ rest → (ty_field_phrase x).1 ≡ p
      → b ≡ true → Where b (FirmIn g sc p) → FieldsLeft fields rest
  fields_step fields left rest x p b h e f t n read k = h read
      (subst (λ xs. AreFirmFields (seen g read sc) (ty_fields (map ty_field_phrase xs))) (sym e)
      (subst (IsFirm (seen g read sc)) (sym f) (where_true b t n read), k))

  pub fields_end : (fields left : List TyField) → FieldsLeft fields left → left ≡ [] → (read : V → ValueEntry)
      → AreFirmFields (seen g read sc) (ty_fields (map ty_field_phrase fields))
  fields_end fields left h e read =
      h read (subst (λ xs. AreFirmFields (seen g read sc) (ty_fields (map ty_field_phrase xs))) (sym e) tt)
