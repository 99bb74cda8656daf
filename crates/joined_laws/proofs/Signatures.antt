-- Signature expressions, of which an `and` may be taken that joins something to the phrase around.
use Rattle.std.proofs.Common.{◌≡◌, ◌⊎◌, ℕ, zero, suc, ◌-◌, List, [], ◌∷◌, ◌++◌, Option, Some, None, Bool, true, false, nat_lt, inl, inr, refl, sym, ap, subst, ◌∙◌, arith}
use Rattle.std.proofs.lemmas.Bool.{lt-ltb}
use Rattle.std.proofs.lemmas.List.{append_assoc, append-nil}
use Rattle.grammars.specs.Grammar.{Grammar, End, Ends, Phrase, Rounds, head_or, begins}
use Rattle.sml_lexer.specs.declared.lexeme.Lexeme.{Lexeme}
use Rattle.sml_lexer.specs.Words.{same_word}
use Rattle.sml_trees.specs.declared.full_sig.FullSigExp.{FullSigExp}
use Rattle.sml_trees.specs.declared.full_sig.FullSigExp.TheVariants as s
use Rattle.sml_trees.specs.declared.full_sig.FullWhere.{FullWhere}
use Rattle.sml_trees.specs.declared.full_ty.FullTy.{FullTy}
use Rattle.sml_trees.specs.declared.name.At.{At}
use Rattle.core_types.specs.Types.{ty}
use Rattle.phrase_reading.specs.Sized.{over_two}
use Rattle.phrase_reading.specs.Words.{g, is, at}
use Rattle.phrase_reading.specs.declared.tall.Tall.{Tall}
use Rattle.sml_lexer.specs.declared.words.Word.TheVariants as w
use Rattle.signature_parser.specs.Joined.{apart}
use Rattle.signature_parser.specs.SigLevels.{sig_level}
use Rattle.signature_parser.specs.Signatures.{starts_sig, sig_atom, where_types, where_of, where_behind, wheres, sig_within, sig_behind, sig_of, goes_on_with}
use Rattle.signature_parser.specs.declared.joined.Joined.{Joined}
use Rattle.head_laws.proofs.Algebra.{Began, same_many, began, within_in}
use Rattle.head_laws.proofs.Lexemes.{word_is, is_by}
use Rattle.joined_laws.specs.Forms.{Form, BeginAt}
use Rattle.joined_laws.proofs.Parts.{Ended, IsReader}
use Rattle.joined_laws.proofs.Types.{All, whole_in, whole_of}

-- ---- marks

and_no_where : (x : Lexeme) → is w.And x ≡ true → is w.Where x ≡ false
unfolding same_word
and_no_where x ands = is_by w.Where x (Some w.And) (word_is w.And x ands)

where_no_and : (x : Lexeme) → is w.Where x ≡ true → is w.And x ≡ false
unfolding same_word
where_no_and x wheres = is_by w.And x (Some w.Where) (word_is w.Where x wheres)

-- ---- places

begin_once : (xs : List Lexeme) (place other : At) → BeginAt xs place → BeginAt xs other → place ≡ other
begin_once [] place other (x, ys, split, h) there = absurd (cc)
begin_once (z ∷ zs) place other (x, xs, split, h) (y, ys, parted, k) = let one : z ≡ x = cc in let two : z ≡ y = cc in
    h ∙ ap at (sym one ∙ two) ∙ sym k

begin_more : (xs ys : List Lexeme) (place : At) → BeginAt xs place → BeginAt (xs ++ ys) place
begin_more xs ys place (x, zs, split, h) = (x, zs ++ ys, ap (λ (l : List Lexeme). l ++ ys) split, h)

-- a signature with these types
abbrev pub where_over : At → Tall FullSigExp → Tall (List FullWhere) → Tall FullSigExp
where_over place left types = over_two (λ (sig : FullSigExp) (types : List FullWhere). s.Where sig types place) left
    types

-- a level is left
pub room_for : (m : ℕ) → nat_lt 0 (suc m) ≡ true
room_for m = lt-ltb 0 (suc m) (omega arith)

module _ (m : ℕ) where
  abbrev tys : g (Tall FullTy)
  tys = ty m

  abbrev pub whole : g (Joined FullSigExp)
  whole = sig_of (suc m) (sig_level m)

  -- a signature expression without types
  abbrev pub Atom : Form (Tall FullSigExp)
  Atom xs next made =
      (x : Lexeme) × (ys : List Lexeme) × (xs ≡ x ∷ ys) × (starts_sig x ≡ true)
      × Phrase (sig_atom (sig_level m) x) ys next made

  -- .. with so many `where`
  abbrev pub Wheres : ℕ → Form (Tall FullSigExp)
  Wheres zero xs next made = Atom xs next made
  Wheres (suc k) xs next made =
      (ys : List Lexeme) × (x : Lexeme) × (zs : List Lexeme) × (left : Tall FullSigExp) ×
      (types : Tall (List FullWhere))
      × (place : At) × (xs ≡ ys ++ x ∷ zs) × Wheres k ys (Some x) left × (is w.Where x ≡ true) × All tys zs next types
      × (nat_lt left.height (suc m) ≡ true) × BeginAt ys place × (made ≡ where_over place left types)

  abbrev pub Sig : Form (Tall FullSigExp)
  Sig xs next made = (k : ℕ) × Wheres k xs next made

  -- ---- what is read

  abbrev test : Joined FullSigExp → Lexeme → Bool
  test left x = goes_on_with w.Where left.joined x

  abbrev step : At → Joined FullSigExp → Lexeme → g (Joined FullSigExp)
  step place left x = where_behind (suc m) tys place left.made

  abbrev Round : At → ℕ → Joined FullSigExp → List Lexeme → Option Lexeme → Joined FullSigExp → Type 0
  Round place n left xs next all = Rounds test (λ a x. Ends (step place a x)) n left (End.whole all) xs next

  no_more : (place : At) (n : ℕ) (left all : Joined FullSigExp) (xs : List Lexeme) (next : Option Lexeme)
      → left.joined ≡ true → Round place n left xs next all → (xs ≡ []) × (all ≡ left)
  no_more place zero left all xs next joined h = let ends : End.whole all ≡ End.whole left = h.2 in (h.1, cc)
  no_more place (suc n) left all [] next joined h = absurd h
  no_more place (suc n) left all (x ∷ xs) next joined h =
      let goes : goes_on_with w.Where left.joined x ≡ true = h.0 in
      let never : goes_on_with w.Where left.joined x ≡ false = ap (λ (b : Bool). goes_on_with w.Where b x) joined in
      absurd (cc)

  -- what is behind a `where`
  record Behind (place : At) (left : Tall FullSigExp) (xs : List Lexeme) (next : Option Lexeme)
      (mid : Joined FullSigExp)
      : Type 0 where
    types : Tall (List FullWhere)
    joined : Bool
    room : nat_lt left.height (suc m) ≡ true
    ended : Ended (is w.And) joined (λ ys after. All tys ys after types) xs next
    made_of : mid ≡ record { made = where_over place left types; joined = joined }

  where_in : (place : At) (left : Tall FullSigExp) (xs : List Lexeme) (next : Option Lexeme) (mid : Joined FullSigExp)
      → Phrase (where_behind (suc m) tys place left) xs next mid → Behind place left xs next mid
  unfolding where_behind where_of
  where_in place left xs next mid h =
      let room = within_in (nat_lt left.height (suc m)) (where_of tys place left) xs next mid h in by_types room.0
      room.1
    where
      by_types : nat_lt left.height (suc m) ≡ true → Phrase (where_of tys place left) xs next mid
          → Behind place left xs next mid
      by_types room (inl (types, ys, zs, split, p, q)) =
          let ends : End.whole mid ≡ End.whole (record
          { made = where_over place left types.made; joined = types.joined }) = q.1 in
          let all : ys ≡ xs = sym (split ∙ ap (λ (l : List Lexeme). ys ++ l) q.0 ∙ append-nil ys) in
          let behind : head_or zs next ≡ next = ap (λ (l : List Lexeme). head_or l next) q.0 in
          record {
            types = types.made;
            joined = types.joined;
            room = room;
            ended = whole_in tys xs next types (subst (λ (l : List Lexeme). Phrase (where_types tys) l next types) all
                (subst (λ (o : Option Lexeme). Phrase (where_types tys) ys o types) behind p));
            made_of = cc;
          }
      by_types room (inr h) = absurd h

  wheres_in : (place : At) (n : ℕ) (us : List Lexeme) (left : Tall FullSigExp) (zs : List Lexeme) (next : Option Lexeme)
      (all : Joined FullSigExp) → BeginAt us place → Sig us (head_or zs next) left → Round place n (apart left) zs next
      all
      → Ended (is w.Where) all.joined (λ ys after. Sig ys after all.made) (us ++ zs) next
  wheres_in place zero us left (x ∷ xs) next all begin it h = let never : x ∷ xs ≡ [] = h.1 in absurd (cc)
  wheres_in place zero us left [] next all begin it h =
      let ends : End.whole all ≡ End.whole (apart left) = h.2 in
      let same : apart left ≡ all = cc in
      subst (λ (all : Joined FullSigExp). Ended (is w.Where) all.joined (λ ys after. Sig ys after all.made) (us ++ [])
      next) same
      (subst (λ (l : List Lexeme). Sig l next left) (sym (append-nil us)) it, h.0)
  wheres_in place (suc n) us left [] next all begin it h = absurd h
  wheres_in place (suc n) us left (x ∷ xs) next all begin it (goes, inr h) = absurd h
  wheres_in place (suc n) us left (x ∷ xs) next all begin it (goes, inl (mid, ys, zs, split, q, r)) =
      let found = where_in place left ys (head_or zs next) mid q in
      by_joined (λ left it r. wheres_in place n (us ++ x ∷ ys) left zs next all (begin_more us (x ∷ ys) place begin) it
      r)
      found.joined found.types found.room found.ended found.made_of
    where
      sig_of_types : (types : Tall (List FullWhere)) (vs : List Lexeme) (after : Option Lexeme)
          → nat_lt left.height (suc m) ≡ true → All tys vs after types
          → Sig (us ++ x ∷ vs) after (where_over place left types)
      sig_of_types types vs after room are =
          (suc it.0, (us, x, vs, left, types, place, refl, it.1, goes, are, room, begin, refl))

      by_joined : ((left : Tall FullSigExp) → Sig (us ++ x ∷ ys) (head_or zs next) left → Round place n (apart left) zs
          next all
          → Ended (is w.Where) all.joined (λ ys after. Sig ys after all.made) ((us ++ x ∷ ys) ++ zs) next)
          → (joined : Bool) (types : Tall (List FullWhere)) → nat_lt left.height (suc m) ≡ true
          → Ended (is w.And) joined (λ ys after. All tys ys after types) ys (head_or zs next)
          → mid ≡ record { made = where_over place left types; joined = joined }
          → Ended (is w.Where) all.joined (λ ys after. Sig ys after all.made) (us ++ x ∷ xs) next
      by_joined go false types room (are, stops) same =
          subst (λ (l : List Lexeme). Ended (is w.Where) all.joined (λ ys after. Sig ys after all.made) l next)
          (append_assoc us (x ∷ ys) zs ∙ ap (λ (l : List Lexeme). us ++ x ∷ l) (sym split))
          (go (where_over place left types) (sig_of_types types ys (head_or zs next) room are)
          (subst (λ (mid : Joined FullSigExp). Round place n mid zs next all) same r))
      by_joined go true types room (vs, y, parted, ands, are, stops) same =
          let joined : mid.joined ≡ true = ap (λ (mid : Joined FullSigExp). mid.joined) same in
          let none = no_more place n mid all zs next joined r in
          let whole : record { made = where_over place left types; joined = true } ≡ all = sym (none.1 ∙ same) in
          let text : us ++ x ∷ xs ≡ (us ++ x ∷ vs) ++ y ∷ [] =
          ap (λ (l : List Lexeme). us ++ x ∷ l)
          (split ∙ ap (λ (l : List Lexeme). ys ++ l) none.0 ∙ append-nil ys ∙ parted)
          ∙ sym (append_assoc us (x ∷ vs) (y ∷ [])) in
          subst (λ (all : Joined FullSigExp). Ended (is w.Where) all.joined (λ ys after. Sig ys after all.made)
          (us ++ x ∷ xs) next)
          whole (
            us ++ x ∷ vs,
            y,
            text,
            ands,
            sig_of_types types vs (Some y) room are,
            subst (λ (l : List Lexeme). begins (is w.TypeWord) (head_or l next) ≡ false) none.0 stops,
          )

  -- behind the first lexeme
  abbrev pub behind : Lexeme → g (Joined FullSigExp)
  behind x = Grammar.bind (sig_atom (sig_level m) x) (λ first. wheres (suc m) tys (at x) (apart first))

  pub behind_is : (x : Lexeme) → sig_within (suc m) (sig_level m) x ≡ behind x
  unfolding sig_within
  behind_is x = let same : suc m - 1 ≡ m = omega arith in rw same refl

  sig_in : (xs : List Lexeme) (next : Option Lexeme) (all : Joined FullSigExp) → Phrase whole xs next all
      → Ended (is w.Where) all.joined (λ ys after. Sig ys after all.made) xs next
  unfolding wheres
  sig_in xs next all h =
      by_first (began starts_sig (sig_behind (suc m) (sig_level m)) xs next all h)
    where
      by_atom : (x : Lexeme) (rest : List Lexeme) → xs ≡ x ∷ rest → starts_sig x ≡ true → Phrase (behind x) rest next
          all
          → Ended (is w.Where) all.joined (λ ys after. Sig ys after all.made) xs next
      by_atom x rest written starts (inl (first, ys, zs, split, p, (n, r))) =
          subst (λ (l : List Lexeme). Ended (is w.Where) all.joined (λ ys after. Sig ys after all.made) l next)
          (ap (λ (l : List Lexeme). x ∷ l) (sym split) ∙ sym written)
          (wheres_in (at x) n (x ∷ ys) first zs next all (x, ys, refl, refl) (zero, (x, ys, refl, starts, p)) r)
      by_atom x rest written starts (inr h) = absurd h

      by_first : Began starts_sig xs (λ x rest. Phrase (sig_behind (suc m) (sig_level m) x) rest next all)
          → Ended (is w.Where) all.joined (λ ys after. Sig ys after all.made) xs next
      by_first it =
          let room = within_in (nat_lt 0 (suc m)) (sig_within (suc m) (sig_level m) it.first) it.rest next all
          it.then_so in
          by_atom it.first it.rest it.written it.is
          (subst (λ (grammar : g (Joined FullSigExp)). Phrase grammar it.rest next all) (behind_is it.first) room.1)

  -- ---- .. and back

  abbrev more : At → Joined FullSigExp → g (Joined FullSigExp)
  more place left = wheres (suc m) tys place left

  stop_of : (place : At) (left : Joined FullSigExp) (next : Option Lexeme) → begins (test left) next ≡ false
      → Phrase (more place left) [] next left
  unfolding wheres
  stop_of place left next stops = (same_many test (step place) left).back [] next left (stops, (refl, refl))

  quiet : (left : Joined FullSigExp) (next : Option Lexeme) → left.joined ≡ true → begins (test left) next ≡ false
  quiet left None joined = refl
  quiet left (Some x) joined = ap (λ (b : Bool). goes_on_with w.Where b x) joined

  where_then : (place : At) (left : Tall FullSigExp) (types : Tall (List FullWhere)) (joined : Bool) (x : Lexeme)
      (ys zs : List Lexeme) (next : Option Lexeme) (all : Joined FullSigExp) → is w.Where x ≡ true
      → nat_lt left.height (suc m) ≡ true
      → Ended (is w.And) joined (λ ys after. All tys ys after types) ys (head_or zs next)
      → Phrase (more place (record { made = where_over place left types; joined = joined })) zs next all
      → Phrase (more place (apart left)) (x ∷ (ys ++ zs)) next all
  unfolding wheres where_behind where_of
  where_then place left types joined x ys zs next all goes room ended rest =
      (same_many test (step place) (apart left)).back (x ∷ (ys ++ zs)) next all
      (inl (
        goes,
        inl (
          record { made = where_over place left types; joined = joined },
          ys,
          zs,
          refl,
          inl (
            room,
            inl (
              record { made = types; joined = joined },
              ys,
              [],
              sym (append-nil ys),
              whole_of tys joined types ys (head_or zs next) ended,
              (refl, refl),
            ),
          ),
          rest,
        ),
      ))

  atom_on : (ys : List Lexeme) (left : Tall FullSigExp) (zs : List Lexeme) (next : Option Lexeme)
      (all : Joined FullSigExp)
      (place : At) → Atom ys (head_or zs next) left → BeginAt ys place → Phrase (more place (apart left)) zs next all
      → Phrase whole (ys ++ zs) next all
  atom_on ys left zs next all place (x, us, split, starts, p) begin h =
      subst (λ (l : List Lexeme). Phrase whole (l ++ zs) next all) (sym split)
      (inl (
        starts,
        inl (
          room_for m,
          subst (λ (grammar : g (Joined FullSigExp)). Phrase grammar (us ++ zs) next all)
              (sym (behind_is x)) (inl (
                left,
                us,
                zs,
                refl,
                p,
                subst (λ (place : At). Phrase (more place (apart left)) zs next all)
                    (begin_once ys place (at x) begin (x, us, split, refl)) h,
              )),
        ),
      ))

  sig_on : (k : ℕ) (ys : List Lexeme) (left : Tall FullSigExp) (zs : List Lexeme) (next : Option Lexeme)
      (all : Joined FullSigExp) (place : At) → Wheres k ys (head_or zs next) left → BeginAt ys place
      → begins (is w.And) (head_or zs next) ≡ false → Phrase (more place (apart left)) zs next all
      → Phrase whole (ys ++ zs) next all
  sig_on zero ys left zs next all place it begin no_and h = atom_on ys left zs next all place it begin h
  sig_on (suc k) ys left zs next all place (us, x, vs, inner, types, first, split, it, goes, are, room, begun, same)
      begin no_and h =
      let places : place ≡ first =
      begin_once ys place first begin
      (subst (λ (l : List Lexeme). BeginAt l first) (sym split) (begin_more us (x ∷ vs) first begun)) in
      let rest = where_then first inner types false x vs zs next all goes room (are, no_and)
      (subst (λ (left : Tall FullSigExp). Phrase (more first (apart left)) zs next all) same
      (subst (λ (place : At). Phrase (more place (apart left)) zs next all) places h)) in
      subst (λ (l : List Lexeme). Phrase whole l next all)
      (sym (append_assoc us (x ∷ vs) zs) ∙ ap (λ (l : List Lexeme). l ++ zs) (sym split))
      (sig_on k us inner (x ∷ (vs ++ zs)) next all first it begun (where_no_and x goes) rest)

  begins_somewhere : (k : ℕ) (ys : List Lexeme) (next : Option Lexeme) (left : Tall FullSigExp) → Wheres k ys next left
      → (place : At) × BeginAt ys place
  begins_somewhere zero ys next left (x, us, split, starts, p) = (at x, (x, us, split, refl))
  begins_somewhere (suc k) ys next left (us, x, vs, inner, types, first, split, it, goes, are, room, begun, same) =
      (first, subst (λ (l : List Lexeme). BeginAt l first) (sym split) (begin_more us (x ∷ vs) first begun))

  sig_last : (ys : List Lexeme) (next : Option Lexeme) (left : Tall FullSigExp) → Sig ys next left
      → begins (is w.And) next ≡ false → begins (is w.Where) next ≡ false → Phrase whole ys next (apart left)
  sig_last ys next left (k, it) no_and stops =
      let place = begins_somewhere k ys next left it in
      subst (λ (l : List Lexeme). Phrase whole l next (apart left)) (append-nil ys)
      (sig_on k ys left [] next (apart left) place.0 it place.1 no_and (stop_of place.0 (apart left) next stops))

  sig_more : (ys : List Lexeme) (x : Lexeme) (next : Option Lexeme) (left : Tall FullSigExp) → Sig ys (Some x) left
      → is w.And x ≡ true → begins (is w.TypeWord) next ≡ false
      → Phrase whole ys (Some x) (apart left) ⊎ Phrase whole (ys ++ x ∷ []) next (record { made = left; joined = true })
  sig_more ys x next left (zero, it) ands stops =
      let place = begins_somewhere zero ys (Some x) left it in
      inl (subst (λ (l : List Lexeme). Phrase whole l (Some x) (apart left)) (append-nil ys)
      (atom_on ys left [] (Some x) (apart left) place.0 it place.1
      (stop_of place.0 (apart left) (Some x) (and_no_where x ands))))
  sig_more ys x next left (suc k, (us, y, vs, inner, types, first, split, it, goes, are, room, begun, same)) ands stops
      =
      let all : Joined FullSigExp = record { made = left; joined = true } in
      let rest = where_then first inner types true y (vs ++ x ∷ []) [] next all goes room
      (vs, x, refl, ands, are, stops)
      (subst (λ (left : Tall FullSigExp). Phrase (more first (record { made = left; joined = true })) [] next all) same
      (stop_of first all next (quiet all next refl))) in
      inr (subst (λ (l : List Lexeme). Phrase whole l next all)
      (ap (λ (l : List Lexeme). us ++ y ∷ l) (append-nil (vs ++ x ∷ [])) ∙ sym (append_assoc us (y ∷ vs) (x ∷ []))
      ∙ ap (λ (l : List Lexeme). l ++ x ∷ []) (sym split))
      (sig_on k us inner (y ∷ ((vs ++ x ∷ []) ++ [])) next all first it begun (where_no_and y goes) rest))

  pub sig_reader : IsReader whole Sig (is w.Where)
  sig_reader = record { into = sig_in; last = sig_last; more = sig_more }
