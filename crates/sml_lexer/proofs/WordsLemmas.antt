-- A text that begins with a letter is at most one of the words that begin near that letter.
use Rattle.std.proofs.Common.{◌≡◌, ℕ, ◌<◌, ◌≤◌, Bool, true, false, Option, None, Some, List, [], ◌∷◌, nat_eq, refl, arith, inl, inr, slice_index}
use Rattle.std.proofs.lemmas.Bool.{cases_Bool, eqb-true}
use Rattle.sml_lexer.specs.Words.{mark, a_to_d, e_to_f, h_to_n, o_to_s, t_to_w, or_else, word_of}
use Rattle.sml_lexer.specs.declared.words.Word.{Word}
use Rattle.sml_lexer.specs.Classes.{first}

-- bytes apart are not equal
below : (a b : ℕ) → a < b → nat_eq a b ≡ false
below a b h = elim (cases_Bool (nat_eq a b)) [ inl e ↦ let same : a ≡ b = eqb-true a b e in absurd (omega arith) | inr e ↦ e ]

above : (a b : ℕ) → b < a → nat_eq a b ≡ false
above a b h = elim (cases_Bool (nat_eq a b)) [ inl e ↦ let same : a ≡ b = eqb-true a b e in absurd (omega arith) | inr e ↦ e ]

none_after : {A : Type 0} (found : Option A) → or_else found None ≡ found
none_after None = refl
none_after (Some found) = refl

a_to_d_below : (b : ℕ) (bs : List ℕ) → b < 97 → a_to_d (b ∷ bs) ≡ None
unfolding a_to_d
a_to_d_below b bs h = rw (below b 97 (omega arith)) (rw (below b 99 (omega arith)) (rw (below b 100 (omega arith)) refl))

a_to_d_above : (b : ℕ) (bs : List ℕ) → 100 < b → a_to_d (b ∷ bs) ≡ None
unfolding a_to_d
a_to_d_above b bs h = rw (above b 97 (omega arith)) (rw (above b 99 (omega arith)) (rw (above b 100 (omega arith)) refl))

e_to_f_below : (b : ℕ) (bs : List ℕ) → b < 101 → e_to_f (b ∷ bs) ≡ None
unfolding e_to_f
e_to_f_below b bs h = rw (below b 101 (omega arith)) (rw (below b 102 (omega arith)) refl)

e_to_f_above : (b : ℕ) (bs : List ℕ) → 102 < b → e_to_f (b ∷ bs) ≡ None
unfolding e_to_f
e_to_f_above b bs h = rw (above b 101 (omega arith)) (rw (above b 102 (omega arith)) refl)

h_to_n_below : (b : ℕ) (bs : List ℕ) → b < 104 → h_to_n (b ∷ bs) ≡ None
unfolding h_to_n
h_to_n_below b bs h = rw (below b 104 (omega arith)) (rw (below b 105 (omega arith)) (rw (below b 108 (omega arith)) (rw (below b 110 (omega arith)) refl)))

h_to_n_above : (b : ℕ) (bs : List ℕ) → 110 < b → h_to_n (b ∷ bs) ≡ None
unfolding h_to_n
h_to_n_above b bs h = rw (above b 104 (omega arith)) (rw (above b 105 (omega arith)) (rw (above b 108 (omega arith)) (rw (above b 110 (omega arith)) refl)))

o_to_s_below : (b : ℕ) (bs : List ℕ) → b < 111 → o_to_s (b ∷ bs) ≡ None
unfolding o_to_s
o_to_s_below b bs h = rw (below b 111 (omega arith)) (rw (below b 114 (omega arith)) (rw (below b 115 (omega arith)) refl))

o_to_s_above : (b : ℕ) (bs : List ℕ) → 115 < b → o_to_s (b ∷ bs) ≡ None
unfolding o_to_s
o_to_s_above b bs h = rw (above b 111 (omega arith)) (rw (above b 114 (omega arith)) (rw (above b 115 (omega arith)) refl))

t_to_w_below : (b : ℕ) (bs : List ℕ) → b < 116 → t_to_w (b ∷ bs) ≡ None
unfolding t_to_w
t_to_w_below b bs h = rw (below b 116 (omega arith)) (rw (below b 118 (omega arith)) (rw (below b 119 (omega arith)) refl))

t_to_w_above : (b : ℕ) (bs : List ℕ) → 119 < b → t_to_w (b ∷ bs) ≡ None
unfolding t_to_w
t_to_w_above b bs h = rw (above b 116 (omega arith)) (rw (above b 118 (omega arith)) (rw (above b 119 (omega arith)) refl))

mark_of_letter : (b : ℕ) (bs : List ℕ) → 96 < b → b < 120 → mark (b ∷ bs) ≡ None
unfolding mark
mark_of_letter b bs low high = rw (above b 35 (omega arith))
    (rw (above b 40 (omega arith))
    (rw (above b 41 (omega arith))
    (rw (above b 44 (omega arith))
    (rw (above b 45 (omega arith))
    (rw (above b 46 (omega arith))
    (rw (above b 58 (omega arith))
    (rw (above b 59 (omega arith))
    (rw (above b 61 (omega arith))
    (rw (above b 91 (omega arith))
    (rw (above b 93 (omega arith))
    (rw (above b 95 (omega arith))
    (rw (below b 123 (omega arith))
    (rw (below b 124 (omega arith))
    (rw (below b 125 (omega arith)) refl))))))))))))))

pub marks_below : (text : List ℕ) → first text < 97 → word_of text ≡ mark text
unfolding word_of mark a_to_d e_to_f h_to_n o_to_s t_to_w
marks_below [] h = refl
marks_below (b ∷ bs) h =
    rw (a_to_d_below b bs (omega arith))
    (rw (e_to_f_below b bs (omega arith))
    (rw (h_to_n_below b bs (omega arith))
    (rw (o_to_s_below b bs (omega arith))
    (rw (t_to_w_below b bs (omega arith)) (none_after (mark (b ∷ bs)))))))

pub only_a_to_d : (text : List ℕ) → 97 ≤ first text → first text ≤ 100 → word_of text ≡ a_to_d text
unfolding word_of
only_a_to_d [] low high = absurd (omega arith)
only_a_to_d (b ∷ bs) low high =
    rw (mark_of_letter b bs (omega arith) (omega arith))
    (rw (e_to_f_below b bs (omega arith))
    (rw (h_to_n_below b bs (omega arith))
    (rw (o_to_s_below b bs (omega arith))
    (rw (t_to_w_below b bs (omega arith)) (none_after (a_to_d (b ∷ bs)))))))

pub only_e_to_f : (text : List ℕ) → 101 ≤ first text → first text ≤ 102 → word_of text ≡ e_to_f text
unfolding word_of
only_e_to_f [] low high = absurd (omega arith)
only_e_to_f (b ∷ bs) low high =
    rw (mark_of_letter b bs (omega arith) (omega arith))
    (rw (a_to_d_above b bs (omega arith))
    (rw (h_to_n_below b bs (omega arith))
    (rw (o_to_s_below b bs (omega arith))
    (rw (t_to_w_below b bs (omega arith)) (none_after (e_to_f (b ∷ bs)))))))

pub only_h_to_n : (text : List ℕ) → 103 ≤ first text → first text ≤ 110 → word_of text ≡ h_to_n text
unfolding word_of
only_h_to_n [] low high = absurd (omega arith)
only_h_to_n (b ∷ bs) low high =
    rw (mark_of_letter b bs (omega arith) (omega arith))
    (rw (a_to_d_above b bs (omega arith))
    (rw (e_to_f_above b bs (omega arith))
    (rw (o_to_s_below b bs (omega arith))
    (rw (t_to_w_below b bs (omega arith)) (none_after (h_to_n (b ∷ bs)))))))

pub only_o_to_s : (text : List ℕ) → 111 ≤ first text → first text ≤ 115 → word_of text ≡ o_to_s text
unfolding word_of
only_o_to_s [] low high = absurd (omega arith)
only_o_to_s (b ∷ bs) low high =
    rw (mark_of_letter b bs (omega arith) (omega arith))
    (rw (a_to_d_above b bs (omega arith))
    (rw (e_to_f_above b bs (omega arith))
    (rw (h_to_n_above b bs (omega arith))
    (rw (t_to_w_below b bs (omega arith)) (none_after (o_to_s (b ∷ bs)))))))

pub only_t_to_w : (text : List ℕ) → 116 ≤ first text → first text ≤ 119 → word_of text ≡ t_to_w text
unfolding word_of
only_t_to_w [] low high = absurd (omega arith)
only_t_to_w (b ∷ bs) low high =
    rw (mark_of_letter b bs (omega arith) (omega arith))
    (rw (a_to_d_above b bs (omega arith))
    (rw (e_to_f_above b bs (omega arith))
    (rw (h_to_n_above b bs (omega arith))
    (rw (o_to_s_above b bs (omega arith)) refl))))

pub marks_above : (text : List ℕ) → 119 < first text → word_of text ≡ mark text
unfolding word_of
marks_above [] h = absurd (omega arith)
marks_above (b ∷ bs) h =
    rw (a_to_d_above b bs (omega arith))
    (rw (e_to_f_above b bs (omega arith))
    (rw (h_to_n_above b bs (omega arith))
    (rw (o_to_s_above b bs (omega arith))
    (rw (t_to_w_above b bs (omega arith)) (none_after (mark (b ∷ bs)))))))
