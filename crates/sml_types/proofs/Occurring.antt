-- looking for a variable, step by step
use Rattle.std.proofs.Common.{◌≡◌, ℕ, suc, ◌+◌, ◌*◌, ◌<◌, ◌≤◌, List, [], ◌∷◌, ◌++◌, length, refl, sym, ap, ap₂, ◌∙◌, subst, Some, Bool, true, false, cond, arith, inl, inr, slice_get, drop}
use Rattle.std.proofs.lemmas.Bool.{eqb-true}
use Rattle.std.specs.Prelude.{eqb, ◌||◌, nat_eq}
use Rattle.semantic_objects.specs.declared.name.TyId.{TyId}
use Rattle.semantic_objects.specs.declared.name.TyId.TheVariants as id
use Rattle.unification.specs.Types.{Ty, Types, size, size_all, occurs, occurs_any}
use Rattle.unification.proofs.Putting.{either_way, or_right, or_false_left, or_false_right}
use Rattle.type_nodes.specs.declared.node.Birth.{Birth}
use Rattle.type_nodes.specs.declared.facts.Facts.{Facts}
use Rattle.type_nodes.specs.Nodes.{rigid_in}
use Rattle.type_nodes.specs.Facts.{has_variable, have_variable, flexible_in, facts_of}
use Rattle.type_nodes.specs.Tables.{Table, whole, type_of}
use Rattle.type_nodes.specs.Keeping.{IsKept}
use Rattle.indexmap.specs.IndexMap.{get}
use Rattle.sml_types.specs.declared.frame.Frame.{Frame}
use Rattle.sml_types.specs.declared.notes.Notes.{Notes}
use Rattle.sml_types.specs.Frames.{Standing, seen, stood, stood_all, parts_at, left, after, NextPart, NoPart, steps_left, IsFrame, AreFrames, any_symbol, symbol_at, nothing, IsFlexible}
use Rattle.sml_types.specs.Occurring.{occurs_left, lacks, IsClear, MetOther, Met, SteppedOn, Stepped}
use Rattle.sml_types.proofs.Frames.{steps_snoc, size_some, frames_as, frames_push, frames_pop, frame_after, frame_new, whole_node_at, all_passed, fixed, not_false}

or_swap : (a b c : Bool) → ((a || b) || c) ≡ ((a || c) || b)
or_swap true b c = refl
or_swap false true true = refl
or_swap false true false = refl
or_swap false false true = refl
or_swap false false false = refl

or_group : (a b c : Bool) → ((a || b) || c) ≡ (a || (c || b))
or_group true b c = refl
or_group false true true = refl
or_group false true false = refl
or_group false false true = refl
or_group false false false = refl

or_none : (a b : Bool) → b ≡ false → a ≡ (a || b)
or_none true b h = refl
or_none false b h = sym h

both_false : (a b : Bool) → a ≡ false → b ≡ false → (a || b) ≡ false
both_false a b h k = ap₂ ◌||◌ h k

pub occurs_snoc : (v : ℕ) (s : Standing) (fs : List Frame) (f : Frame)
    → occurs_left v s (fs ++ f ∷ []) ≡ (occurs_left v s fs || occurs_any v (left s f))
occurs_snoc v s [] f = refl
occurs_snoc v s (g ∷ gs) f = ap (λ b. b || occurs_any v (left s g)) (occurs_snoc v s gs f)
    ∙ or_swap (occurs_left v s gs) (occurs_any v (left s f)) (occurs_any v (left s g))

-- an id that needs nothing more
pub met_clear : (v : ℕ) (s : Standing) (u : Ty) (fs : List Frame) → lacks v u → MetOther v s u fs fs
met_clear v s u fs h = record {
  answer = or_none (occurs_left v s fs) (occurs v u) h;
  frames = λ k. frames_as any_symbol (lacks v) (lacks v) (λ x. x ≡ u) nothing s fs (λ x p. p)
      (λ x e. inl (subst (lacks v) (sym e) h)) k;
  less = (let n : 1 ≤ size u = size_some u in omega (arith, n));
}

met_is : (v : ℕ) (s : Standing) (u : Ty) (fs : List Frame) (b : Bool) → occurs v u ≡ b → Met v s u fs fs b
met_is v s u fs true h = h
met_is v s u fs false h = met_clear v s u fs h

pub met_variable : (v at : ℕ) (s : Standing) (u : Ty) (fs : List Frame) (b : Bool) → u ≡ Ty.Var at → b ≡ eqb v at
    → Met v s u fs fs b
met_variable v at s u fs b e h = met_is v s u fs b (ap (occurs v) e ∙ sym h)

-- a node of which all parts are to be gone through
pub met_node : (v i : ℕ) (t : Table) (u : Ty) (fs : List Frame) (f : Frame) → IsKept t → i < length t.nodes
    → whole t (id.Made i) ≡ u → f.node ≡ i → f.next ≡ 0 → MetOther v (seen t) u fs (fs ++ f ∷ [])
met_node v i t u fs f k l e a b =
    let s : Standing = seen t in
    let parts : left s f ≡ stood_all s (parts_at s i) = ap₂ (λ n j. stood_all s (drop n (parts_at s j))) b a in
    let made : u ≡ Ty.Made (symbol_at s i) (stood_all s (parts_at s i)) =
    sym e ∙ whole_node_at t i k l in
    record {
      answer = occurs_snoc v s fs f ∙ ap (λ b. occurs_left v s fs || b) (ap (occurs_any v) parts ∙ sym (ap (occurs v) made));
      frames = λ h. frames_push any_symbol (lacks v) nothing s fs f
          (frames_as any_symbol (lacks v) (lacks v) (λ x. x ≡ u) (λ x. x ≡ stood s (id.Made f.node)) s fs (λ x p. p)
          (λ x p. inr (p ∙ sym e ∙ ap (λ j. stood s (id.Made j)) (sym a))) h)
          (frame_new any_symbol (lacks v) s f (subst (λ j. j < length t.nodes) (sym a) l) tt b);
      less = (let n : size u ≡ size_all (stood_all s (parts_at s i)) + 1 = ap size made in
          let m : size_all (left s f) ≡ size_all (stood_all s (parts_at s i)) = ap size_all parts in
          let j : steps_left s (fs ++ f ∷ []) ≡ steps_left s fs + (2 * size_all (left s f) + 1) = steps_snoc s fs f in
          omega (arith, n, m, j));
    }

-- a node without flexible variables
mutual
  pub absent : (births : List Birth) (v : ℕ) (u : Ty) → rigid_in births v ≡ false
      → has_variable (flexible_in births) u ≡ false → occurs v u ≡ false
  absent births v (Ty.Var n) h k = either_way (eqb v n)
      (λ e. let i : false ≡ true = sym h ∙ ap (rigid_in births) (eqb-true v n e) ∙ not_false (rigid_in births n) k in absurd (cc))
      (λ e. e)
  absent births v (Ty.Made c ts) h k = absent_all births v ts h k

  absent_all : (births : List Birth) (v : ℕ) (us : Types) → rigid_in births v ≡ false
      → have_variable (flexible_in births) us ≡ false → occurs_any v us ≡ false
  absent_all births v Types.Nil h k = refl
  absent_all births v (Types.Cons u us) h k = both_false (occurs v u) (occurs_any v us)
      (absent births v u h (or_false_left (has_variable (flexible_in births) u) (have_variable (flexible_in births) us) k))
      (absent_all births v us h (or_false_right (has_variable (flexible_in births) u) (have_variable (flexible_in births) us) k))

pub fixed_whole : (t : Table) (i : ℕ) (f : Facts) → IsKept t → f ≡ facts_of t.births (type_of t (id.Made i))
    → f.flexible ≡ false → whole t (id.Made i) ≡ type_of t (id.Made i)
fixed_whole t i f k e h = fixed t (type_of t (id.Made i)) k (sym (ap (λ (g : Facts). g.flexible) e) ∙ h)

pub lacks_fixed : (v i : ℕ) (t : Table) (f : Facts) → IsKept t → IsFlexible t v
    → f ≡ facts_of t.births (type_of t (id.Made i)) → f.flexible ≡ false → lacks v (whole t (id.Made i))
lacks_fixed v i t f k l e h = ap (occurs v) (fixed_whole t i f k e h)
    ∙ absent t.births v (type_of t (id.Made i)) l.flexible (sym (ap (λ (g : Facts). g.flexible) e) ∙ h)

-- all parts of a frame are passed
lack_all : (v : ℕ) (s : Standing) (ids : List TyId) → ((k : ℕ) (a : TyId) → slice_get ids k ≡ Some a → lacks v (stood s a))
    → occurs_any v (stood_all s ids) ≡ false
lack_all v s [] h = refl
lack_all v s (a ∷ ids) h = both_false (occurs v (stood s a)) (occurs_any v (stood_all s ids)) (h 0 a refl)
    (lack_all v s ids (λ k b e. h (suc k) b e))

pub lacks_passed : (v : ℕ) (t : Table) (f : Frame) → IsKept t → NoPart (seen t) f → IsFrame any_symbol (lacks v) nothing (seen t) f
    → lacks v (whole t (id.Made f.node))
lacks_passed v t f k n h = ap (occurs v) (whole_node_at t f.node k h.within)
    ∙ lack_all v (seen t) (parts_at (seen t) f.node) (all_passed any_symbol (lacks v) (seen t) f n h)

pub last_frame : (v : ℕ) (t : Table) (fs : List Frame) (f : Frame) → AreFrames any_symbol (lacks v) nothing (seen t) (fs ++ f ∷ [])
    → IsFrame any_symbol (lacks v) nothing (seen t) f
last_frame v t fs f h = (frames_pop any_symbol (lacks v) nothing (seen t) fs f h).1

pub stepped_none : (v : ℕ) (t : Table) (fs : List Frame) (f : Frame) → IsKept t → NoPart (seen t) f
    → AreFrames any_symbol (lacks v) nothing (seen t) (fs ++ f ∷ []) → SteppedOn v (seen t) (fs ++ f ∷ []) fs
stepped_none v t fs f k n h =
    let s : Standing = seen t in
    let g = frames_pop any_symbol (lacks v) nothing s fs f h in
    let c : lacks v (whole t (id.Made f.node)) = lacks_passed v t f k n g.1 in
    record {
      answer = or_none (occurs_left v s fs) (occurs_any v (left s f)) (ap (occurs_any v) n.left) ∙ sym (occurs_snoc v s fs f);
      frames = frames_as any_symbol (lacks v) (lacks v) (λ x. x ≡ stood s (id.Made f.node)) nothing s fs (λ x p. p)
          (λ x e. inl (subst (lacks v) (sym e) c)) g.0;
      less = (let j : steps_left s (fs ++ f ∷ []) ≡ steps_left s fs + (2 * size_all (left s f) + 1) = steps_snoc s fs f in
          omega (arith, j));
    }

-- what is noted after a frame is closed
pub clear_more : (v : ℕ) (s : Standing) (i m : ℕ) (old new : Notes) → IsClear v s old → lacks v (stood s (id.Made i))
    → ((n : ℕ) → get nat_eq new.numbers n ≡ cond (nat_eq i n) (Some m) (get nat_eq old.numbers n)) → IsClear v s new
clear_more v s i m old new h c e n o g = either_way (nat_eq i n)
    (λ j. subst (λ z. lacks v (stood s (id.Made z))) (eqb-true i n j) c)
    (λ j. h n o (sym (ap (λ b. cond b (Some m) (get nat_eq old.numbers n)) j) ∙ sym (e n) ∙ g))

-- the next part is looked at
step_answer : (v : ℕ) (t : Table) (fs : List Frame) (f : Frame) (a : TyId) → NextPart t f a
    → (occurs_left v (seen t) (fs ++ after f ∷ []) || occurs v (whole t a)) ≡ occurs_left v (seen t) (fs ++ f ∷ [])
step_answer v t fs f a n = ap (λ b. b || occurs v (whole t a)) (occurs_snoc v (seen t) fs (after f))
    ∙ or_group (occurs_left v (seen t) fs) (occurs_any v (left (seen t) (after f))) (occurs v (whole t a))
    ∙ sym (occurs_snoc v (seen t) fs f ∙ ap (λ ts. occurs_left v (seen t) fs || occurs_any v ts) n.left)

pub stepped_part : (v : ℕ) (t : Table) (fs new : List Frame) (f : Frame) (a : TyId) (b : Bool) → NextPart t f a
    → AreFrames any_symbol (lacks v) nothing (seen t) (fs ++ f ∷ []) → Met v (seen t) (whole t a) (fs ++ after f ∷ []) new b
    → Stepped v (seen t) (fs ++ f ∷ []) new b
stepped_part v t fs new f a true n h m = sym (step_answer v t fs f a n)
    ∙ or_right (occurs_left v (seen t) (fs ++ after f ∷ [])) (occurs v (whole t a)) m
stepped_part v t fs new f a false n h m =
    let s : Standing = seen t in
    let g = frames_pop any_symbol (lacks v) nothing s fs f h in
    let k : AreFrames any_symbol (lacks v) (λ x. x ≡ whole t a) s (fs ++ after f ∷ []) =
    frames_push any_symbol (lacks v) (λ x. x ≡ whole t a) s fs (after f) g.0 (frame_after any_symbol (lacks v) nothing t f a n g.1) in
    record {
      answer = m.answer ∙ step_answer v t fs f a n;
      frames = m.frames k;
      less = (let i : steps_left s (fs ++ f ∷ []) ≡ steps_left s fs + (2 * size_all (left s f) + 1) = steps_snoc s fs f in
          let j : steps_left s (fs ++ after f ∷ []) ≡ steps_left s fs + (2 * size_all (left s (after f)) + 1) = steps_snoc s fs (after f) in
          let l : size_all (left s f) ≡ size (whole t a) + size_all (left s (after f)) = ap size_all n.left in
          let o : steps_left s new < steps_left s (fs ++ after f ∷ []) + 2 * size (whole t a) = m.less in
          omega (arith, i, j, l, o));
    }
