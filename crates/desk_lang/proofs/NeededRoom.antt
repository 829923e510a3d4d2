-- How many bytes a line needs behind its verb: words of a least length, each behind a blank.
use Rattle.std.proofs.Common.{◌≡◌, ℕ, ◌+◌, ◌≤◌, Bool, true, false, ◌⊎◌, inl, inr, List, [], ◌∷◌, ◌++◌, length, take, drop, All, Option, None, Some, Result, Ok, Err, codes, refl, sym, ap, ◌∙◌, subst, arith, append-nil, length-append, take-append-drop}
use Rattle.std.specs.Prelude.{IsOk, if◌then◌else◌}
use Rattle.std.proofs.lemmas.Bool.{cases_Bool, cases_lt, cond-false, false≢true, true≢false}
use Rattle.std.proofs.lemmas.Option.{none-some}
use Rattle.std.proofs.lemmas.List.Elements.{All-nil, All-cons}
use Rattle.std.proofs.lemmas.Slice.Eq.{bytes_eq-Decides}
use Rattle.std.specs.Str.{bytes_eq}
use Rattle.reg_entry.specs.declared.kind.Kind.{Kind}
use Rattle.reg_entry.specs.declared.kind.Kind.TheVariants.{Lir, EndUser}
use Rattle.reg_entry.specs.declared.holder.Holder.{Holder}
use Rattle.reg_entry.specs.declared.request.Request.TheVariants.{AddHolder}
use Rattle.reg_entry.specs.Cc.{is_cc}
use Rattle.reg_entry.specs.Handle.{is_handle}
use Rattle.reg_entry.specs.Text.{is_text}
use Rattle.desk_lang.specs.declared.line.Line.{Line}
use Rattle.desk_lang.specs.declared.rest.Form.{Form}
use Rattle.desk_lang.specs.declared.rest.Form.TheVariants.{Plain, Quoted, Broken}
use Rattle.desk_lang.specs.declared.rest.Malformed.{Malformed}
use Rattle.desk_lang.specs.Words.{PlainRest, PlainWord, is_blank, rest_at, word_length, malformed_at, broken_word, ends_word, first_word, end_place, same_form, word_in, value_of_word, next_value, at_end, ◌>>=◌}
use Rattle.desk_lang.specs.Values.{label_of, kind_of}
use Rattle.desk_lang.specs.Grammar.{holder_line, requested, line_of_word, line_of}
use Rattle.desk_lang.proofs.WordForms.{length_cc}
use Rattle.desk_lang.proofs.FrontWords.{AreBlank, blanks_parted, run_parted, plain_again, first_at, nothing_at, quotes_of, Whole, word_of_form, whole_at, front_cases}
use Rattle.desk_lang.proofs.ReadWords.{IsUnbroken}
use Rattle.desk_lang.proofs.WrongLines.{short_line, long_line}
use Rattle.desk_lang.proofs.WrongPlaces.{by_word, of_form, refused}

-- a text that the reader takes has so many bytes at least
abbrev pub Needs : {A : Type 0} → (PlainRest → Result A Malformed) → ℕ → Type 0
Needs read least = (place : ℕ) (text : List ℕ) → ends_word text ≡ true → IsOk (read (rest_at place text)) → least ≤ length text

same_quotes : (f g : Form) → same_form f g ≡ true → quotes_of f ≡ quotes_of g
same_quotes Plain Plain h = refl
same_quotes Plain Quoted h = absurd (false≢true h)
same_quotes Plain Broken h = absurd (false≢true h)
same_quotes Quoted Plain h = absurd (false≢true h)
same_quotes Quoted Quoted h = refl
same_quotes Quoted Broken h = absurd (false≢true h)
same_quotes Broken g h = absurd (false≢true h)

some_blank : (blanks tail : List ℕ) → ends_word (blanks ++ tail) ≡ true → ends_word tail ≡ false → 1 ≤ length blanks
some_blank [] tail h bare = absurd (false≢true (sym bare ∙ h))
some_blank (b ∷ blanks) tail h bare = omega arith

module _ {T U : Type 0} (form : Form) (value : List ℕ → Option T) (read_on : T × PlainRest → Result U Malformed) (least more : ℕ)
    (long : (content : List ℕ) (x : T) → value content ≡ Some x → least ≤ length content) (later : (x : T) → Needs (λ rest. read_on (x, rest)) more) where
  abbrev reads : PlainRest → Result U Malformed
  reads rest = next_value form value rest >>= read_on

  wrong : (r : Result U Malformed) (fault : Malformed) → IsOk r → r ≡ Err fault → ⊥
  wrong r fault ok e = false≢true (subst (λ (r : Result U Malformed). IsOk r) e ok)

  module _ (place : ℕ) (blanks tail : List ℕ) (are : AreBlank blanks) (ends : ends_word (blanks ++ tail) ≡ true) (ok : IsOk (reads (rest_at place (blanks ++ tail)))) where
    by_first : (w : PlainWord) → first_word (rest_at place (blanks ++ tail)) ≡ Some w → reads (rest_at place (blanks ++ tail)) ≡ by_word form value read_on w
    by_first w is = ap (λ o. (word_in form (end_place (rest_at place (blanks ++ tail))) o >>= λ w. value_of_word w (value w.bytes)) >>= read_on) is

    module _ (bare : ends_word tail ≡ false) where
      of_whole : {f : Form} → Whole f tail → 1 + quotes_of form + least + more ≤ length (blanks ++ tail)
      of_whole {f} whole =
          elim (cases_Bool (same_form f form)) [
            | inr other ↦ absurd (wrong _ _ ok (by_first w is ∙ refused form value read_on w (inl other)))
            | inl same ↦ of_value same (value whole.content) refl
          ]
        where
          w : PlainWord
          w = word_of_form f (place + length blanks) whole.content (length whole.word) whole.behind

          is : first_word (rest_at place (blanks ++ tail)) ≡ Some (word_of_form f (place + length blanks) whole.content (length whole.word) whole.behind)
          is = first_at place blanks tail are bare ∙ whole_at whole (place + length blanks)

          of_value : same_form f form ≡ true → (o : Option T) → value whole.content ≡ o → 1 + quotes_of form + least + more ≤ length (blanks ++ tail)
          of_value same None v = absurd (wrong _ _ ok (by_first w is ∙ refused form value read_on w (inr v)))
          of_value same (Some x) v =
              let goes_on : reads (rest_at place (blanks ++ tail)) ≡ read_on (x, rest_at (place + length blanks + length whole.word) whole.behind) =
              by_first w is ∙ of_form form value read_on w same ∙ ap (λ o. value_of_word w o >>= read_on) v in
              let behind = later x (place + length blanks + length whole.word) whole.behind whole.ends (subst (λ (r : Result U Malformed). IsOk r) goes_on ok) in
              let content = long whole.content x v in
              let quotes = same_quotes f form same in
              let blank = some_blank blanks tail ends bare in
              let parts = ap length whole.parted ∙ length-append whole.word whole.behind in
              omega (arith, behind, content, quotes, blank, parts, whole.size, length-append blanks tail)

      of_tail : 1 + quotes_of form + least + more ≤ length (blanks ++ tail)
      of_tail =
          elim (front_cases tail bare) [
            | inl plain ↦ of_whole plain
            | inr (inl quote) ↦ of_whole quote
            | inr (inr broken) ↦ absurd (wrong _ _ ok (by_first _ (first_at place blanks tail are bare ∙ broken (place + length blanks)) ∙ refused form value read_on (broken_word (place + length blanks)) (inl refl)))
          ]

  pub value_needs : Needs reads (1 + quotes_of form + least + more)
  value_needs place text ends ok =
      let p = blanks_parted text in
      let ends' : ends_word (p.blanks ++ p.tail) ≡ true = ap ends_word (sym p.parted) ∙ ends in
      let ok' = subst (λ t. IsOk (reads (rest_at place t))) p.parted ok in
      let size = ap length p.parted in
      elim p.begins [
        | inr bare ↦ let few = of_tail place p.blanks p.tail p.are_blank ends' ok' bare in omega (arith, few, size)
        | inl empty ↦
            let all : text ≡ p.blanks = p.parted ∙ ap (λ t. p.blanks ++ t) empty ∙ append-nil p.blanks in
            absurd (wrong _ _ ok (ap (λ o. (word_in form (place + length text) o >>= λ w. value_of_word w (value w.bytes)) >>= read_on) (ap (λ t. first_word (rest_at place t)) all ∙ nothing_at place p.blanks p.are_blank)))
      ]

pub end_needs : {A : Type 0} (meaning : A) → Needs (at_end meaning) 0
end_needs meaning place text ends ok = omega arith

-- ---- a holder's words

label_form : (is_form : List ℕ → Bool) (content bytes : List ℕ) → label_of is_form content ≡ Some bytes → is_form content ≡ true
label_form is_form content bytes h =
    elim (cases_Bool (is_form content)) [ inl is ↦ is | inr other ↦ absurd (none-some bytes (sym (cond-false (is_form content) (Some content) None other) ∙ h)) ]

handle_long : (content bytes : List ℕ) → label_of is_handle content ≡ Some bytes → 1 ≤ length content
handle_long [] bytes h = absurd (none-some bytes h)
handle_long (b ∷ content) bytes h = omega arith

cc_long : (content bytes : List ℕ) → label_of is_cc content ≡ Some bytes → 2 ≤ length content
cc_long content bytes h = let two = length_cc content (label_form is_cc content bytes h) in omega arith

text_long : (content bytes : List ℕ) → label_of is_text content ≡ Some bytes → 1 ≤ length content
text_long [] bytes h = absurd (none-some bytes h)
text_long (b ∷ content) bytes h = omega arith

kind_long : (content : List ℕ) (kind : Kind) → kind_of content ≡ Some kind → 3 ≤ length content
kind_long content kind h =
    elim (cases_Bool (bytes_eq content (codes "lir"))) [
      | inl lir ↦ let size = ap length ((bytes_eq-Decides content (codes "lir")).0 lir) in omega (arith, size)
      | inr other ↦
          elim (cases_Bool (bytes_eq content (codes "enduser"))) [
            | inl user ↦ let size = ap length ((bytes_eq-Decides content (codes "enduser")).0 user) in omega (arith, size)
            | inr none ↦
                absurd (none-some kind
                (sym (cond-false (bytes_eq content (codes "lir")) (Some Lir) (if bytes_eq content (codes "enduser") then Some EndUser else None) other ∙ cond-false (bytes_eq content (codes "enduser")) (Some EndUser) None none) ∙ h))
          ]
    ]

pub holder_needs : Needs holder_line 17
unfolding holder_line
holder_needs =
    value_needs Plain (label_of is_handle) _ 1 15 handle_long λ handle.
    value_needs Plain kind_of _ 3 11 kind_long λ kind.
    value_needs Plain (label_of is_cc) _ 2 8 cc_long λ cc.
    value_needs Quoted (label_of is_text) _ 1 4 text_long λ name.
    value_needs Quoted (label_of is_text) _ 1 0 text_long λ email. end_needs _

-- ---- lines of holders

abbrev line_from : PlainRest → Result Line Malformed
line_from rest = line_of_word (first_word rest)

wrong_line : (r : Result Line Malformed) (fault : Malformed) → IsOk r → r ≡ Err fault → ⊥
wrong_line r fault ok e = false≢true (subst (λ (r : Result Line Malformed). IsOk r) e ok)

holder_run : (word : List ℕ) → All IsUnbroken word → All IsUnbroken (codes "holder" ++ word)
holder_run word h =
    All-cons IsUnbroken 104 (codes "older" ++ word) refl (All-cons IsUnbroken 111 (codes "lder" ++ word) refl (All-cons IsUnbroken 108 (codes "der" ++ word) refl
    (All-cons IsUnbroken 100 (codes "er" ++ word) refl (All-cons IsUnbroken 101 (codes "r" ++ word) refl (All-cons IsUnbroken 114 word refl h)))))

requested_ok : (r : Result Holder Malformed) → IsOk (requested (λ holder. AddHolder holder) r) → IsOk r
requested_ok (Ok holder) h = refl
requested_ok (Err fault) h = h

-- behind the verb
behind_verb : (more : List ℕ) → ends_word more ≡ true → line_from (rest_at 1 (codes "holder" ++ more)) ≡ requested (λ holder. AddHolder holder) (holder_line (rest_at 7 more))
behind_verb more ends = ap line_of_word (plain_again 1 104 (codes "older") more refl (holder_run [] (All-nil IsUnbroken)) ends)

-- the first word goes on behind `holder`
behind_letters : (b : ℕ) (bs : List ℕ) → is_blank b ≡ false → line_from (rest_at 1 (codes "holder" ++ (b ∷ bs))) ≡ Err (malformed_at 1)
behind_letters b bs other =
    let run = run_parted bs in
    let word = b ∷ take (word_length bs) bs in
    ap (λ t. line_from (rest_at 1 (codes "holder" ++ (b ∷ t)))) (sym (take-append-drop (word_length bs) bs))
    ∙ ap line_of_word
    (plain_again 1 104 (codes "older" ++ word) (drop (word_length bs) bs) refl (holder_run word (All-cons IsUnbroken b (take (word_length bs) bs) other run.0)) run.1)

-- a line of a holder has 17 bytes at least behind its verb
pub holder_room : (more : List ℕ) → IsOk (line_of (codes "holder" ++ more)) → 17 ≤ length more
holder_room more ok =
    elim (cases_lt 1024 (length (codes "holder" ++ more))) [
      | inl many ↦ absurd (wrong_line _ _ ok (long_line (codes "holder" ++ more) many))
      | inr few ↦
          let short = short_line (codes "holder" ++ more) (omega arith) in
          of_word more (subst (λ (r : Result Line Malformed). IsOk r) short ok) (cases_Bool (ends_word more))
    ]
  where
    of_word : (more : List ℕ) → IsOk (line_from (rest_at 1 (codes "holder" ++ more))) → (ends_word more ≡ true) ⊎ (ends_word more ≡ false) → 17 ≤ length more
    of_word more ok (inl ends) = holder_needs 7 more ends (requested_ok (holder_line (rest_at 7 more)) (subst (λ (r : Result Line Malformed). IsOk r) (behind_verb more ends) ok))
    of_word [] ok (inr other) = absurd (true≢false other)
    of_word (b ∷ bs) ok (inr other) = absurd (wrong_line _ _ ok (behind_letters b bs other))
