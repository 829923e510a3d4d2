-- Where a reader goes wrong, word by word: whatever stands behind the word there, it does, and what stands before can go on.
use Rattle.std.proofs.Common.{◌≡◌, ℕ, ◌+◌, ◌≤◌, true, false, ◌⊎◌, inl, inr, List, [], ◌∷◌, ◌++◌, length, Option, None, Some, Result, Ok, Err, refl, sym, ap, ◌∙◌, subst, arith, append_assoc, append-nil, length-append}
use Rattle.std.specs.Prelude.{IsOk}
use Rattle.std.proofs.lemmas.Bool.{cases_Bool, cond-true, cond-false}
use Rattle.desk_lang.specs.declared.rest.Form.{Form}
use Rattle.desk_lang.specs.declared.rest.Form.TheVariants.{Plain}
use Rattle.desk_lang.specs.declared.rest.Malformed.{Malformed}
use Rattle.desk_lang.specs.Words.{PlainRest, PlainWord, rest_at, ends_word, word_at, first_word, end_place, same_form, word_in, value_of_word, next_value, malformed_at, ended, at_end, ◌>>=◌}
use Rattle.desk_lang.specs.Places.{front_word, BeginAlike}
use Rattle.desk_lang.proofs.FrontWords.{AreBlank, blanks_parted, first_at, nothing_at, Whole, word_of_form, front_cases, IsWordAt, Front, whole_front, broken_front, front_of, alike_ends, nothing_alike}

-- ---- what is shown of readers

-- a text that the reader takes whole, with blanks before it or none
pub record Filled {A : Type 0} (read : PlainRest → Result A Malformed) (room : ℕ) : Type 0 where
  pub fill : List ℕ
  pub short : length fill ≤ room
  pub ends : ends_word fill ≡ true
  pub fills : (place : ℕ) (blanks : List ℕ) → AreBlank blanks → IsOk (read (rest_at place (blanks ++ fill)))

-- where the reader goes wrong: it does so with every word like the one there, and more text makes what stands before whole
pub record Wrong {A : Type 0} (read : PlainRest → Result A Malformed) (room place : ℕ) (text : List ℕ) (fault : Malformed) : Type 0 where
  pub front : List ℕ
  pub behind : List ℕ
  pub parted : text ≡ front ++ behind
  pub there : fault ≡ malformed_at (place + length front)
  pub same : (other : List ℕ) → BeginAlike behind other → read (rest_at place (front ++ other)) ≡ Err fault
  pub more : List ℕ
  pub short : length more ≤ room
  pub ends : ends_word more ≡ true
  pub goes_on : IsOk (read (rest_at place (front ++ more)))

abbrev pub GoesWrong : {A : Type 0} → (PlainRest → Result A Malformed) → ℕ → Type 0
GoesWrong read room = (place : ℕ) (text : List ℕ) (fault : Malformed) → read (rest_at place text) ≡ Err fault → Wrong read room place text fault

-- ---- a reader that goes by the next word

module _ {T U : Type 0} (form : Form) (value : List ℕ → Option T) (read_on : T × PlainRest → Result U Malformed) where
  -- what is made of the word
  abbrev pub by_word : PlainWord → Result U Malformed
  by_word w = (word_in form 0 (Some w) >>= λ w. value_of_word w (value w.bytes)) >>= read_on

  -- no such word has a value
  abbrev pub IsRefused : Form → List ℕ → Type 0
  IsRefused f content = (same_form f form ≡ false) ⊎ (value content ≡ None)

  -- a word of the form goes on as its value does
  pub of_form : (w : PlainWord) → same_form w.form form ≡ true → by_word w ≡ (value_of_word w (value w.bytes) >>= read_on)
  of_form w same = ap (λ r. (r >>= λ w. value_of_word w (value w.bytes)) >>= read_on) (cond-true (same_form w.form form) (Ok w) (Err (malformed_at w.place)) same)

  pub refused : (w : PlainWord) → IsRefused w.form w.bytes → by_word w ≡ Err (malformed_at w.place)
  refused w (inl other) = ap (λ r. (r >>= λ w. value_of_word w (value w.bytes)) >>= read_on) (cond-false (same_form w.form form) (Ok w) (Err (malformed_at w.place)) other)
  refused w (inr none) =
      elim (cases_Bool (same_form w.form form)) [
        | inl same ↦
            of_form w same ∙ ap (λ o. value_of_word w o >>= read_on) none
        | inr other ↦ ap (λ r. (r >>= λ w. value_of_word w (value w.bytes)) >>= read_on) (cond-false (same_form w.form form) (Ok w) (Err (malformed_at w.place)) other)
      ]

  accepted : (w : PlainWord) (x : T) → same_form w.form form ≡ true → value w.bytes ≡ Some x → by_word w ≡ read_on (x, w.behind)
  accepted w x same some =
      of_form w same ∙ ap (λ o. value_of_word w o >>= read_on) some

  module _ (read : PlainRest → Result U Malformed) (on_word : (rest : PlainRest) (w : PlainWord) → first_word rest ≡ Some w → read rest ≡ by_word w)
      (on_none : (place : ℕ) (text : List ℕ) (fault : Malformed) → AreBlank text → read (rest_at place text) ≡ Err fault → fault ≡ malformed_at (place + length text))
      (room : ℕ) (filled : Filled read room) (later : (x : T) → GoesWrong (λ rest. read_on (x, rest)) room) where
    -- words are missing
    at_nothing : (place : ℕ) (blanks : List ℕ) (fault : Malformed) → AreBlank blanks → read (rest_at place blanks) ≡ Err fault → Wrong read room place blanks fault
    at_nothing place blanks fault are e = record {
      front = blanks;
      behind = [];
      parted = sym (append-nil blanks);
      there = on_none place blanks fault are e;
      same = λ other alike. ap (λ t. read (rest_at place (blanks ++ t))) (nothing_alike other alike) ∙ ap (λ t. read (rest_at place t)) (append-nil blanks) ∙ e;
      more = filled.fill;
      short = filled.short;
      ends = filled.ends;
      goes_on = filled.fills place blanks are;
    }

    -- the word there has no value
    at_refused : (place : ℕ) (blanks tail : List ℕ) (fault : Malformed) → AreBlank blanks → ends_word tail ≡ false → (front : Front tail) → IsRefused front.form front.content
        → read (rest_at place (blanks ++ tail)) ≡ Err fault → Wrong read room place (blanks ++ tail) fault
    at_refused place blanks tail fault are bare front none e = record {
      front = blanks;
      behind = tail;
      parted = refl;
      there = fault_of (read (rest_at place (blanks ++ tail))) fault _ e (goes_wrong tail bare (front.at (place + length blanks)));
      same = λ other alike.
          let other_bare = sym (alike_ends tail other alike) ∙ bare in
          goes_wrong other other_bare (alike_at other alike other_bare) ∙ sym (goes_wrong tail bare (front.at (place + length blanks))) ∙ e;
      more = filled.fill;
      short = filled.short;
      ends = filled.ends;
      goes_on = filled.fills place blanks are;
    }
      where
        fault_of : (r : Result U Malformed) (a b : Malformed) → r ≡ Err a → r ≡ Err b → a ≡ b
        fault_of r a b h k = cc

        same_word : (o : Option (Form × List ℕ)) (f g : Form) (c d : List ℕ) → o ≡ Some (f, c) → o ≡ Some (g, d) → (f ≡ g) × (c ≡ d)
        same_word o f g c d h k = let pair : ◌≡◌ {A = Form × List ℕ} (f, c) (g, d) = cc in (ap (λ (p : Form × List ℕ). p.0) pair, ap (λ (p : Form × List ℕ). p.1) pair)

        goes_wrong : (t : List ℕ) → ends_word t ≡ false → IsWordAt (place + length blanks) front.form front.content t → read (rest_at place (blanks ++ t)) ≡ Err (malformed_at (place + length blanks))
        goes_wrong t t_bare (behind, is) =
            let w : PlainWord = record { place = place + length blanks; form = front.form; bytes = front.content; behind = behind } in
            on_word (rest_at place (blanks ++ t)) w (first_at place blanks t are t_bare ∙ is) ∙ refused w none

        alike_at : (other : List ℕ) → BeginAlike tail other → ends_word other ≡ false → IsWordAt (place + length blanks) front.form front.content other
        alike_at other alike other_bare =
            let its = front_of other other_bare in
            let same = same_word (front_word tail) front.form its.form front.content its.content front.front (alike ∙ its.front) in
            let at = its.at (place + length blanks) in
            (at.0, at.1 ∙ ap (λ f. Some (record { place = place + length blanks; form = f; bytes = its.content; behind = at.0 })) (sym same.0) ∙ ap (λ c. Some (record { place = place + length blanks; form = front.form; bytes = c; behind = at.0 })) (sym same.1))

    -- the word there has a value, and what stands behind it goes wrong
    at_accepted : {f : Form} (place : ℕ) (blanks tail : List ℕ) (fault : Malformed) → AreBlank blanks → (whole : Whole f tail) (x : T) → same_form f form ≡ true → value whole.content ≡ Some x
        → read (rest_at place (blanks ++ tail)) ≡ Err fault → Wrong read room place (blanks ++ tail) fault
    at_accepted {f} place blanks tail fault are whole x same some e = record {
      front = blanks ++ (whole.word ++ inner.front);
      behind = inner.behind;
      parted = ap (λ t. blanks ++ t) (whole.parted ∙ ap (λ t. whole.word ++ t) inner.parted) ∙ sym (joined inner.behind);
      there = inner.there ∙ ap malformed_at size;
      same = λ other alike. ap (λ t. read (rest_at place t)) (joined other) ∙ goes_on (inner.front ++ other) (still_ends other (sym (alike_ends inner.behind other alike))) ∙ inner.same other alike;
      more = inner.more;
      short = inner.short;
      ends = inner.ends;
      goes_on =
          subst (λ (r : Result U Malformed). IsOk r)
          (sym (ap (λ t. read (rest_at place t)) (joined inner.more) ∙ goes_on (inner.front ++ inner.more) (more_ends inner.front inner.behind inner.more inner_ends inner.ends))) inner.goes_on;
    }
      where
        goes_on : (t : List ℕ) → ends_word t ≡ true → read (rest_at place (blanks ++ (whole.word ++ t))) ≡ read_on (x, rest_at (place + length blanks + length whole.word) t)
        goes_on t ends =
            let w = word_of_form f (place + length blanks) whole.content (length whole.word) t in
            on_word (rest_at place (blanks ++ (whole.word ++ t))) w (first_at place blanks (whole.word ++ t) are (whole.bare t) ∙ whole.again (place + length blanks) t ends)
            ∙ accepted w x same some

        inner : Wrong (λ rest. read_on (x, rest)) room (place + length blanks + length whole.word) whole.behind fault
        inner =
            later x (place + length blanks + length whole.word) whole.behind fault
            (sym (goes_on whole.behind whole.ends) ∙ ap (λ t. read (rest_at place (blanks ++ t))) (sym whole.parted) ∙ e)

        joined : (t : List ℕ) → (blanks ++ (whole.word ++ inner.front)) ++ t ≡ blanks ++ (whole.word ++ (inner.front ++ t))
        joined t = append_assoc blanks (whole.word ++ inner.front) t ∙ ap (λ u. blanks ++ u) (append_assoc whole.word inner.front t)

        size : place + length blanks + length whole.word + length inner.front ≡ place + length (blanks ++ (whole.word ++ inner.front))
        size = omega (arith, length-append blanks (whole.word ++ inner.front), length-append whole.word inner.front)

        inner_ends : ends_word (inner.front ++ inner.behind) ≡ true
        inner_ends = ap ends_word (sym inner.parted) ∙ whole.ends

        more_ends : (front behind more : List ℕ) → ends_word (front ++ behind) ≡ true → ends_word more ≡ true → ends_word (front ++ more) ≡ true
        more_ends [] behind more h k = k
        more_ends (b ∷ front) behind more h k = h

        still_ends : (other : List ℕ) → ends_word other ≡ ends_word inner.behind → ends_word (inner.front ++ other) ≡ true
        still_ends other alike = like inner.front inner_ends
          where
            like : (front : List ℕ) → ends_word (front ++ inner.behind) ≡ true → ends_word (front ++ other) ≡ true
            like [] h = alike ∙ h
            like (b ∷ front) h = h

    module _ (place : ℕ) (blanks tail : List ℕ) (fault : Malformed) (are : AreBlank blanks) (e : read (rest_at place (blanks ++ tail)) ≡ Err fault) where
      by_value : {f : Form} → ends_word tail ≡ false → (whole : Whole f tail) → same_form f form ≡ true → (o : Option T) → value whole.content ≡ o → Wrong read room place (blanks ++ tail) fault
      by_value bare whole same None v = at_refused place blanks tail fault are bare (whole_front whole) (inr v) e
      by_value bare whole same (Some x) v = at_accepted place blanks tail fault are whole x same v e

      by_form : {f : Form} → ends_word tail ≡ false → Whole f tail → Wrong read room place (blanks ++ tail) fault
      by_form {f} bare whole =
          elim (cases_Bool (same_form f form)) [
            | inl same ↦ by_value bare whole same (value whole.content) refl
            | inr other ↦ at_refused place blanks tail fault are bare (whole_front whole) (inl other) e
          ]

      at_tail : (tail ≡ []) ⊎ (ends_word tail ≡ false) → Wrong read room place (blanks ++ tail) fault
      at_tail (inl empty) =
          let all : blanks ++ tail ≡ blanks = ap (λ t. blanks ++ t) empty ∙ append-nil blanks in
          subst (λ t. Wrong read room place t fault) (sym all) (at_nothing place blanks fault are (ap (λ t. read (rest_at place t)) (sym all) ∙ e))
      at_tail (inr bare) =
          elim (front_cases tail bare) [
            | inl plain ↦ by_form bare plain
            | inr (inl quote) ↦ by_form bare quote
            | inr (inr broken) ↦ at_refused place blanks tail fault are bare (broken_front broken) (inl refl) e
          ]

    pub goes_by_word : GoesWrong read room
    goes_by_word place text fault e =
        let p = blanks_parted text in
        subst (λ t. Wrong read room place t fault) (sym p.parted)
        (at_tail place p.blanks p.tail fault p.are_blank (ap (λ t. read (rest_at place t)) (sym p.parted) ∙ e) p.begins)

  -- the next word's value, and what is read behind it
  pub value_wrong : (room : ℕ) → Filled (λ rest. next_value form value rest >>= read_on) room → ((x : T) → GoesWrong (λ rest. read_on (x, rest)) room)
      → GoesWrong (λ rest. next_value form value rest >>= read_on) room
  value_wrong room filled later =
      goes_by_word (λ rest. next_value form value rest >>= read_on)
      (λ rest w is. ap (λ o. (word_in form (end_place rest) o >>= λ w. value_of_word w (value w.bytes)) >>= read_on) is)
      (λ place text fault are e. missing place text fault (nothing_at place text are) e) room filled later
    where
      missing : (place : ℕ) (text : List ℕ) (fault : Malformed) → first_word (rest_at place text) ≡ None → (next_value form value (rest_at place text) >>= read_on) ≡ Err fault → fault ≡ malformed_at (place + length text)
      missing place text fault none e =
          let found : (next_value form value (rest_at place text) >>= read_on) ≡ Err (malformed_at (place + length text)) = ap (λ o. (word_in form (place + length text) o >>= λ w. value_of_word w (value w.bytes)) >>= read_on) none in
          cc

-- ---- the end of a line

pub ok_never : {A : Type 0} (x : A) (fault : Malformed) → Ok x ≡ Err fault → ⊥
ok_never x fault h = absurd (cc)

pub end_filled : {A : Type 0} (meaning : A) → Filled (at_end meaning) 0
end_filled meaning = record {
  fill = [];
  short = omega arith;
  ends = refl;
  fills = λ place blanks are. subst (λ o. IsOk (ended meaning o)) (sym (ap (λ t. first_word (rest_at place t)) (append-nil blanks) ∙ nothing_at place blanks are)) refl;
}

pub end_wrong : {A : Type 0} (meaning : A) (room : ℕ) → GoesWrong (at_end meaning) room
end_wrong {A} meaning room =
    goes_by_word {T = Unit {0}} Plain (λ _. None) (λ _. Ok meaning) (at_end meaning)
    (λ rest w is. ap (ended meaning) is ∙ sym (refused Plain (λ _. None) (λ _. Ok meaning) w (inr refl)))
    (λ place text fault are e. absurd (ok_never meaning fault (sym (ap (ended meaning) (nothing_at place text are)) ∙ e)))
    room (wider (end_filled meaning)) (λ _ place text fault e. absurd (ok_never meaning fault e))
  where
    wider : {read : PlainRest → Result A Malformed} → Filled read 0 → Filled read room
    wider filled = record { fill = filled.fill; short = omega (arith, filled.short); ends = filled.ends; fills = filled.fills }

-- ---- a word that has a value

pub record Sample {T : Type 0} (form : Form) (value : List ℕ → Option T) (x : T) (room : ℕ) : Type 0 where
  pub content : List ℕ
  pub word : List ℕ
  pub short : length word + 1 ≤ room
  pub bare : (other : List ℕ) → ends_word (word ++ other) ≡ false
  pub again : (place : ℕ) (other : List ℕ) → ends_word other ≡ true → word_at place (word ++ other) ≡ Some (word_of_form form place content (length word) other)
  pub same : same_form form form ≡ true
  pub back : value content ≡ Some x

blanks_more : (blanks : List ℕ) → AreBlank blanks → AreBlank (blanks ++ 32 ∷ [])
blanks_more [] h = (refl, tt)
blanks_more (b ∷ blanks) h = (h.0, blanks_more blanks h.1)

module _ {T U : Type 0} (form : Form) (value : List ℕ → Option T) (x : T) (read_on : T × PlainRest → Result U Malformed) where
  pub word_filled : (m n : ℕ) → Sample form value x m → Filled (λ rest. read_on (x, rest)) n → Filled (λ rest. next_value form value rest >>= read_on) (m + n)
  word_filled m n sample inner = record {
    fill = 32 ∷ (sample.word ++ inner.fill);
    short = omega (arith, length-append sample.word inner.fill, sample.short, inner.short);
    ends = refl;
    fills = λ place blanks are.
        let text = sample.word ++ inner.fill in
        let spaced = blanks ++ 32 ∷ [] in
        let at = place + length spaced in
        let parted : blanks ++ (32 ∷ text) ≡ spaced ++ text = sym (append_assoc blanks (32 ∷ []) text) in
        let first = ap (λ t. first_word (rest_at place t)) parted ∙ first_at place spaced text (blanks_more blanks are) (sample.bare inner.fill) ∙ sample.again at inner.fill inner.ends in
        subst (λ (r : Result U Malformed). IsOk r)
        (sym (ap (λ o. (word_in form (end_place (rest_at place (blanks ++ (32 ∷ text)))) o >>= λ w. value_of_word w (value w.bytes)) >>= read_on) first
        ∙ accepted form value read_on (word_of_form form at sample.content (length sample.word) inner.fill) x sample.same sample.back))
        (inner.fills (at + length sample.word) [] tt);
  }

  pub word_wrong : (m n room : ℕ) → Sample form value x m → Filled (λ rest. read_on (x, rest)) n → m + n ≤ room → ((y : T) → GoesWrong (λ rest. read_on (y, rest)) room)
      → GoesWrong (λ rest. next_value form value rest >>= read_on) room
  word_wrong m n room sample inner fits later = value_wrong form value read_on room (wider (word_filled m n sample inner)) later
    where
      wider : {read : PlainRest → Result U Malformed} → Filled read (m + n) → Filled read room
      wider filled = record { fill = filled.fill; short = omega (arith, filled.short, fits); ends = filled.ends; fills = filled.fills }
