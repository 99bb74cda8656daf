-- A reading that ends at a condition ends behind a directive that may not stand there.
use Rattle.std.proofs.Common.{◌≡◌, inl, inr, ◌||◌, not, ℕ, zero, suc, List, [], ◌∷◌, ◌++◌, Option, Some, None, option_map, Bool, true, false, if◌then◌else◌, refl, ap, sym, ◌∙◌, subst, append_assoc, append-nil}
use Rattle.cm_base.specs.declared.record.Namespace.{Namespace}
use Rattle.grammars.specs.Grammar.{Grammar, End, Ends, Phrase, Rounds, head_or}
use Rattle.cm_conditions.specs.declared.cond.Cond.{Cond}
use Rattle.cm_conditions.specs.declared.line.LineBody.{LineBody}
use Rattle.cm_conditions.specs.declared.line.LineBody.TheVariants as body
use Rattle.cm_lexer.specs.Spelling.{slice_of}
use Rattle.cm_lexer.specs.declared.token.Token.{Token}
use Rattle.cm_lexer.specs.declared.token.TokenKind.{TokenKind}
use Rattle.cm_lexer.specs.declared.token.TokenKind.TheVariants as kind
use Rattle.cm_description.specs.Answers.{IsInMembers}
use Rattle.cm_description.specs.Grammar.{word, mark, allowed, body_of, said, line, entry, export_step, exports, options, some_options, maybe_options, class, maybe_class, member, member_step, members, description, no_exports, no_members}
use Rattle.cm_description.specs.Modules.{condition_of, names_module}
use Rattle.cm_description.specs.Words.{is_path, is_word, space_at, directive_at}
use Rattle.cm_description.specs.declared.directive.Directive.{Directive}
use Rattle.cm_description.specs.declared.directive.Directive.TheVariants as directive
use Rattle.cm_description.specs.declared.found.Exports.{Exports}
use Rattle.cm_description.specs.declared.found.Members.{Members}
use Rattle.cm_description.specs.declared.word.WordKind.{WordKind}
use Rattle.cm_description.specs.declared.word.WordKind.TheVariants as wanted

-- ---- any grammar

-- behind these lexemes, this holds of all up to a level too many
record Sinks {L A : Type 0} (before : List L) (f : Grammar L A) (D : List L → Type 0) : Type 0 where
  sunk : (xs : List L) (next : Option L) → Ends f End.deep xs next → D (before ++ xs)

not_whole : {A : Type 0} (a : A) → End.deep ≡ End.whole a → ⊥
not_whole a h = cc

not_refused : {A : Type 0} → ◌≡◌ {A = End A} End.deep End.refused → ⊥
not_refused h = cc

sinks_pure : {L A : Type 0} {before : List L} {a : A} {D : List L → Type 0} → Sinks before (Grammar.pure a) D
sinks_pure {a = a} = record { sunk = λ xs next h. absurd (not_whole a h.1) }

sinks_refuse : {L A : Type 0} {before : List L} {D : List L → Type 0} → Sinks before (Grammar.refuse {A = A}) D
sinks_refuse {A = A} = record { sunk = λ xs next h. absurd (not_refused {A = A} h.1) }

bind_sunk : {L A B : Type 0} (before : List L) (f : Grammar L A) (k : A → Grammar L B) (D : List L → Type 0)
    → Sinks before f D → ((ys : List L) (a : A) → Sinks ys (k a) D) → (xs : List L) (next : Option L)
    → Ends (Grammar.bind f k) End.deep xs next → D (before ++ xs)
bind_sunk before f k D one two xs next (inl (a, ys, zs, split, p, q)) =
    subst D (append_assoc before ys zs ∙ ap (λ l. before ++ l) (sym split)) ((two (before ++ ys) a).sunk zs next q)
bind_sunk before f k D one two xs next (inr h) = one.sunk xs next h

sinks_bind : {L A B : Type 0} {before : List L} {f : Grammar L A} {k : A → Grammar L B} {D : List L → Type 0}
    → Sinks before f D → ((ys : List L) (a : A) → Sinks ys (k a) D) → Sinks before (Grammar.bind f k) D
sinks_bind {before = before} {f} {k} {D} one two =
    record { sunk = λ xs next h. bind_sunk before f k D one two xs next h }

on_sunk : {L A : Type 0} (before : List L) (t : L → Bool) (go : L → Grammar L A) (or : Grammar L A)
    (D : List L → Type 0)
    → ((x : L) → Sinks (before ++ x ∷ []) (go x) D) → Sinks before or D → (xs : List L) (next : Option L)
    → Ends (Grammar.on t go or) End.deep xs next → D (before ++ xs)
on_sunk before t go or D one other [] next h = other.sunk [] next h.1
on_sunk before t go or D one other (x ∷ xs) next (inl h) =
    subst D (append_assoc before (x ∷ []) xs) ((one x).sunk xs next h.1)
on_sunk before t go or D one other (x ∷ xs) next (inr h) = other.sunk (x ∷ xs) next h.1

sinks_on : {L A : Type 0} {before : List L} {t : L → Bool} {go : L → Grammar L A} {or : Grammar L A}
    {D : List L → Type 0}
    → ((x : L) → Sinks (before ++ x ∷ []) (go x) D) → Sinks before or D → Sinks before (Grammar.on t go or) D
sinks_on {before = before} {t} {go} {or} {D} one other =
    record { sunk = λ xs next h. on_sunk before t go or D one other xs next h }

module _ {L A : Type 0} (t : A → L → Bool) (step : A → L → Grammar L A) (D : List L → Type 0)
    (each : (before : List L) (a : A) (x : L) → Sinks (before ++ x ∷ []) (step a x) D) where
  rounds_sunk : (n : ℕ) (before : List L) (a : A) (xs : List L) (next : Option L)
      → Rounds t (λ a x. Ends (step a x)) n a End.deep xs next → D (before ++ xs)
  rounds_sunk zero before a xs next h = absurd (not_whole a h.2)
  rounds_sunk (suc n) before a [] next h = absurd h
  rounds_sunk (suc n) before a (x ∷ xs) next (go, inr h) =
      subst D (append_assoc before (x ∷ []) xs) ((each before a x).sunk xs next h)
  rounds_sunk (suc n) before a (x ∷ xs) next (go, inl (c, ys, zs, split, p, r)) =
      subst D
      (append_assoc (before ++ x ∷ []) ys zs ∙ append_assoc before (x ∷ []) (ys ++ zs)
      ∙ ap (λ l. before ++ x ∷ l) (sym split)) (rounds_sunk n ((before ++ x ∷ []) ++ ys) c zs next r)

sinks_many : {L A : Type 0} {before : List L} {t : A → L → Bool} {step : A → L → Grammar L A} {a : A}
    {D : List L → Type 0}
    → ((before : List L) (a : A) (x : L) → Sinks (before ++ x ∷ []) (step a x) D)
    → Sinks before (Grammar.many t step a) D
sinks_many {before = before} {t} {step} {a} {D} each =
    record { sunk = λ xs next h. rounds_sunk t step D each h.0 before a xs next h.1 }

-- ---- the parts of the grammar

word_sinks : (want : WordKind) (text : List ℕ) {before : List Token} {D : List Token → Type 0}
    → Sinks before (word want text) D
unfolding word
word_sinks want text = sinks_on (λ x. sinks_pure) sinks_refuse

mark_sinks : (k : TokenKind) {before : List Token} {D : List Token → Type 0} → Sinks before (mark k) D
unfolding mark
mark_sinks k = sinks_on (λ x. sinks_pure) sinks_refuse

-- these end with a directive that may not stand where modules may be asked for, or may not, and with its rest
abbrev pub EndsAt : Bool → List ℕ → List Token → Type 0
EndsAt modules text ys =
    (bs : List Token) × (x r : Token) × (ys ≡ bs ++ x ∷ r ∷ [])
    × (body_of modules (directive_at text x) (slice_of text r) ≡ None)

one_token : (k : TokenKind) (y : Token) (ys : List Token) (next : Option Token) → Phrase (mark k) ys next y
    → ys ≡ y ∷ []
unfolding mark
one_token k y [] next h = let never : End.whole y ≡ End.refused = h.1.1 in absurd (cc)
one_token k y (x ∷ xs) next (inl h) =
    let is : End.whole y ≡ End.whole x = h.1.1 in
    let same : x ≡ y = cc in ap (λ (z : Token). z ∷ xs) same ∙ ap (λ (l : List Token). y ∷ l) h.1.0
one_token k y (x ∷ xs) next (inr h) = let never : End.whole y ≡ End.refused = h.1.1 in absurd (cc)

said_sunk : (found : Option LineBody) (zs : List Token) (next : Option Token) → Ends (said found) End.deep zs next
    → (zs ≡ []) × (found ≡ None)
said_sunk None zs next (inl h) = let never : true ≡ false = sym h.0 in absurd (cc)
said_sunk None zs next (inr h) = (h.1, refl)
said_sunk (Some b) zs next h = absurd (not_whole b h.1)

body_sunk : {A : Type 0} (found : Option LineBody) (make : LineBody → A) (zs : List Token) (next : Option Token)
    → Ends (Grammar.bind (said found) (λ b. Grammar.pure (make b))) End.deep zs next → (zs ≡ []) × (found ≡ None)
body_sunk found make zs next (inl (b, us, vs, split, p, q)) = absurd (not_whole (make b) q.1)
body_sunk found make zs next (inr h) = said_sunk found zs next h

line_sunk : (modules : Bool) (file text : List ℕ) (before : List Token) (x : Token) (xs : List Token)
    (next : Option Token)
    → Ends (line modules file text x) End.deep xs next → EndsAt modules text ((before ++ x ∷ []) ++ xs)
unfolding line
line_sunk modules file text before x xs next (inl (r, ys, zs, split, p, q)) =
    let end = body_sunk (body_of modules (directive_at text x) (slice_of text r)) _ zs next q in
    let all : xs ≡ r ∷ [] =
    split ∙ ap (λ (l : List Token). ys ++ l) end.0 ∙ append-nil ys ∙ one_token kind.Rest r ys _ p in
    (before, x, r, append_assoc before (x ∷ []) xs ∙ ap (λ (l : List Token). before ++ x ∷ l) all, end.1)
line_sunk modules file text before x xs next (inr h) =
    absurd ((mark_sinks kind.Rest {before = []} {D = λ ys. ⊥}).sunk xs next h)

line_sinks : (modules : Bool) (file text : List ℕ) (before : List Token) (x : Token)
    → Sinks (before ++ x ∷ []) (line modules file text x) (EndsAt modules text)
line_sinks modules file text before x =
    record { sunk = λ xs next h. line_sunk modules file text before x xs next h }

export_sinks : (file text : List ℕ) (before : List Token) (found : Exports) (x : Token) (space : Option Namespace)
    → Sinks (before ++ x ∷ []) (export_step file text found x space) (EndsAt true text)
unfolding export_step entry
export_sinks file text before found x (Some space) =
    sinks_bind (sinks_bind (word_sinks _ _) (λ ys name. sinks_pure)) (λ ys one. sinks_pure)
export_sinks file text before found x None = sinks_bind (line_sinks true file text before x) (λ ys one. sinks_pure)

exports_sink : (file text : List ℕ) (before : List Token) (found : Exports)
    → Sinks before (exports file text found) (EndsAt true text)
unfolding exports
exports_sink file text before found =
    sinks_many (λ before found x. export_sinks file text before found x (space_at text x))

options_sink : (text : List ℕ) (found : List (List ℕ)) {before : List Token} {D : List Token → Type 0}
    → Sinks before (options text found) D
unfolding options
options_sink text found = sinks_many (λ before found x. sinks_pure)

some_options_sink : (text : List ℕ) {before : List Token} {D : List Token → Type 0}
    → Sinks before (some_options text) D
unfolding some_options
some_options_sink text =
    sinks_bind (word_sinks _ _) (λ ys first. sinks_bind (options_sink _ _)
    (λ zs found. sinks_bind (mark_sinks _) (λ us x. sinks_pure)))

class_sinks : (text : List ℕ) {before : List Token} {D : List Token → Type 0} → Sinks before (class text) D
unfolding class maybe_options
class_sinks text =
    sinks_bind (word_sinks _ _) (λ ys name. sinks_bind (sinks_on (λ x. some_options_sink text) sinks_pure)
    (λ zs found. sinks_pure))

member_sinks : (file text : List ℕ) (before : List Token) (found : Members) (x : Token) (path : Bool)
    → Sinks (before ++ x ∷ []) (member_step file text found x path) (EndsAt false text)
unfolding member_step member maybe_class
member_sinks file text before found x true =
    sinks_bind (sinks_bind (sinks_on (λ y. class_sinks text) sinks_pure) (λ ys found. sinks_pure))
    (λ ys one. sinks_pure)
member_sinks file text before found x false = sinks_bind (line_sinks false file text before x) (λ ys one. sinks_pure)

members_sink : (file text : List ℕ) (before : List Token) (found : Members)
    → Sinks before (members file text found) (EndsAt false text)
unfolding members
members_sink file text before found =
    sinks_many (λ before found x. member_sinks file text before found x (is_path x))

-- ---- descriptions

-- at its end a directive that may not stand there: in the export list as anywhere, or in the list of members
pub record EndsAtBad (file text : List ℕ) (ys : List Token) : Type 0 where
  pub before : List Token
  pub directive : Token
  pub rest : Token
  pub split : ys ≡ before ++ directive ∷ rest ∷ []
  pub modules : Bool
  pub bad : body_of modules (directive_at text directive) (slice_of text rest) ≡ None
  pub inside : modules ≡ false → IsInMembers file text before

is_one : (want : WordKind) (text : List ℕ) (y : Token) (ys : List Token) (next : Option Token)
    → Phrase (word want text) ys next y
    → (ys ≡ y ∷ []) × (is_word want text y ≡ true)
unfolding word
is_one want text y [] next h = let never : End.whole y ≡ End.refused = h.1.1 in absurd (cc)
is_one want text y (x ∷ xs) next (inl h) =
    let is : End.whole y ≡ End.whole x = h.1.1 in
    let same : x ≡ y = cc in (
      ap (λ (z : Token). z ∷ xs) same
          ∙ ap (λ (l : List Token). y ∷ l) h.1.0,
      subst (λ (z : Token). is_word want text z ≡ true) same h.0,
    )
is_one want text y (x ∷ xs) next (inr h) = let never : End.whole y ≡ End.refused = h.1.1 in absurd (cc)

never_word : (want : WordKind) (text : List ℕ) (xs : List Token) (next : Option Token)
    → Ends (word want text) End.deep xs next → ⊥
never_word want text xs next h = (word_sinks want text {before = []} {D = λ ys. ⊥}).sunk xs next h

-- the lists behind the first word
in_exports : (file text : List ℕ) (k : Token) (zs : List Token) → EndsAt true text (k ∷ zs)
    → EndsAtBad file text (k ∷ zs)
in_exports file text k zs (bs, x, r, split, bad) = record {
  before = bs;
  directive = x;
  rest = r;
  split = split;
  modules = true;
  bad = bad;
  inside = λ h. absurd (cc);
}

-- of a list that ends with two, what stands before them
front_of : (k : Token) (us ts bs : List Token) (i x r : Token) → ts ≡ bs ++ x ∷ r ∷ []
    → k ∷ (us ++ i ∷ ts) ≡ (k ∷ (us ++ i ∷ bs)) ++ x ∷ r ∷ []
front_of k us ts bs i x r h =
    ap (λ (l : List Token). k ∷ l)
    (ap (λ (l : List Token). us ++ i ∷ l) h ∙ sym (append_assoc us (i ∷ bs) (x ∷ r ∷ [])))

in_members : (file text : List ℕ) (k i : Token) (us ts : List Token) (e : Exports) → is_word wanted.Kind text k ≡ true
    → Phrase (exports file text no_exports) us (Some i) e → is_word wanted.Is text i ≡ true → EndsAt false text ts
    → EndsAtBad file text (k ∷ (us ++ i ∷ ts))
in_members file text k i us ts e begun exported between (bs, x, r, split, bad) = record {
  before = k ∷ (us ++ i ∷ bs);
  directive = x;
  rest = r;
  split = front_of k us ts bs i x r split;
  modules = false;
  bad = bad;
  inside = λ h. (k, us, i, bs, e, refl, begun, exported, between);
}

description_sunk : (file text : List ℕ) (xs : List Token) (next : Option Token)
    → Ends (description file text) End.deep xs next → EndsAtBad file text xs
unfolding description
description_sunk file text xs next (inr h) = absurd (never_word wanted.Kind text xs next h)
description_sunk file text xs next (inl (k, ys, zs, split, p, inr h)) =
    let begun = is_one wanted.Kind text k ys _ p in
    let all : xs ≡ k ∷ zs = split ∙ ap (λ (l : List Token). l ++ zs) begun.0 in
    subst (EndsAtBad file text) (sym all)
    (in_exports file text k zs ((exports_sink file text (k ∷ []) no_exports).sunk zs next h))
description_sunk file text xs next (inl (k, ys, zs, split, p, inl (e, us, vs, apart, exported, inr h))) =
    absurd (never_word wanted.Is text vs next h)
description_sunk file text xs next
    (inl (k, ys, zs, split, p, inl (e, us, vs, apart, exported, inl (i, ws, ts, parted, q, inr h)))) =
    let begun = is_one wanted.Kind text k ys _ p in
    let between = is_one wanted.Is text i ws _ q in
    let rest : vs ≡ i ∷ ts = parted ∙ ap (λ (l : List Token). l ++ ts) between.0 in
    let all : xs ≡ k ∷ (us ++ i ∷ ts) =
    split ∙ ap (λ (l : List Token). l ++ zs) begun.0
    ∙ ap (λ (l : List Token). k ∷ l) (apart ∙ ap (λ (l : List Token). us ++ l) rest) in
    let before : Phrase (exports file text no_exports) us (Some i) e =
    subst (λ (l : List Token). Phrase (exports file text no_exports) us (head_or l next) e) rest exported in
    subst (EndsAtBad file text) (sym all)
    (in_members file text k i us ts e begun.1 before between.1
    ((members_sink file text [] no_members).sunk ts next h))
description_sunk file text xs next
    (inl (
      k,
      ys,
      zs,
      split,
      p,
      inl
          (e, us, vs, apart, exported, inl (i, ws, ts, parted, q, inl (m, os, rs, last, r, h))),
    )) =
    absurd (not_whole _ h.1)

-- what a reading that ends at a condition has taken
pub deep_sunk : (file text : List ℕ) (xs : List Token) (next : Option Token)
    → Ends (description file text) End.deep xs next → EndsAtBad file text xs
deep_sunk file text xs next h = description_sunk file text xs next h

-- ---- conditions that may not stand

refused_by : (modules : Bool) (cond : Cond) (b : Bool) → names_module cond ≡ b
    → (if modules || not b then Some cond else None) ≡ None → (modules ≡ false) × (b ≡ true)
refused_by true cond b e h = absurd (cc)
refused_by false cond true e h = (refl, refl)
refused_by false cond false e h = absurd (cc)

mapped_none : (make : Cond → LineBody) (found : Option Cond) → option_map make found ≡ None → found ≡ None
mapped_none make None h = refl
mapped_none make (Some cond) h = absurd (cc)

-- a condition that is one asks for a module in the list of members, where its directive may not stand
pub asks_for_module : (modules : Bool) (d : Directive) (rest : List ℕ) (cond : Cond) → condition_of rest ≡ Some cond
    → body_of modules d rest ≡ None → (modules ≡ false) × (names_module cond ≡ true)
asks_for_module modules directive.If rest cond is h =
    refused_by modules cond (names_module cond) refl
    (sym (ap (allowed modules) is) ∙ mapped_none body.If (allowed modules (condition_of rest)) h)
asks_for_module modules directive.Elif rest cond is h =
    refused_by modules cond (names_module cond) refl
    (sym (ap (allowed modules) is) ∙ mapped_none body.Elif (allowed modules (condition_of rest)) h)
asks_for_module modules directive.Else rest cond is h = absurd (cc)
asks_for_module modules directive.Endif rest cond is h = absurd (cc)
asks_for_module modules directive.Error rest cond is h = absurd (cc)
