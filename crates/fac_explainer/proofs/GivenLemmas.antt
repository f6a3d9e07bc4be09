-- Texts that are called by their numbers: each name has its own text.
use Rattle.std.proofs.Common.{◌≡◌, ◌≤◌, ◌<◌, ℕ, suc, ◌+◌, ◌^◌, List, [], ◌∷◌, ◌++◌, Bool, true, false, None, Some, length, map, take, get_or, refl, sym, ap, subst, ◌∙◌, arith, append_assoc}
use Rattle.std.specs.Prelude.{decimal, slice_get}
use Rattle.std.specs.Option.{option_map}
use Rattle.std.proofs.lemmas.List.{append-nil, map-append, take_more}
use Rattle.std.proofs.lemmas.Option.{slice_get-map}
use Rattle.std.specs.List.{list_all, concat}
use Rattle.std.specs.Str.{bytes_eq}
use Rattle.std.specs.declared.option.Option.{Option}
use Rattle.std.proofs.lemmas.Fmt.{decimal_injective}
use Rattle.std.proofs.lemmas.Slice.Eq.{bytes_eq-Decides}
use Rattle.fac_io.specs.Names.{bytes_of}
use Rattle.fac_command.specs.Command.{is_file_name}
use Rattle.fac_tool.specs.Answer.{limit}
use Rattle.fac_explainer.specs.Reports.{text_if}
use Rattle.fac_explainer.specs.inner.GivenTexts.{number_name, numbered_texts, names_from, AreNumbered}

pub names_are : (n : ℕ) (texts : List (List ℕ)) → map (λ pair. pair.0) (numbered_texts n texts) ≡ names_from n texts
names_are n [] = refl
names_are n (text ∷ texts) = ap (λ (xs : List (List ℕ)). number_name n ∷ xs) (names_are (n + 1) texts)

pub texts_are : (n : ℕ) (texts : List (List ℕ)) → map (λ pair. pair.1) (numbered_texts n texts) ≡ texts
texts_are n [] = refl
texts_are n (text ∷ texts) = ap (λ (xs : List (List ℕ)). text ∷ xs) (texts_are (n + 1) texts)

pub are_names : (n : ℕ) (texts : List (List ℕ)) → list_all is_file_name (names_from n texts) ≡ true
are_names n [] = refl
are_names n (text ∷ texts) = are_names (n + 1) texts

tail_same : (a b : ℕ) (x y : List ℕ) → a ∷ x ≡ b ∷ y → x ≡ y
tail_same a b x y e = cc

not_true : (b : Bool) → (b ≡ true → ⊥) → b ≡ false
not_true true never = absurd (never refl)
not_true false never = refl

-- two numbers have two names
other_name : (n m : ℕ) → n < m → m < 2 ^ 64 → bytes_eq (number_name n) (number_name m) ≡ false
other_name n m lt most =
    not_true (bytes_eq (number_name n) (number_name m)) (λ same.
    let names : number_name n ≡ number_name m = (bytes_eq-Decides (number_name n) (number_name m)).0 same in
    let is : n ≡ m = decimal_injective n m (omega (arith, lt, most)) most (tail_same 102 102 (decimal n) (decimal m) names) in
    omega (arith, lt, is))

own_name : (n : ℕ) → bytes_eq (number_name n) (number_name n) ≡ true
own_name n = (bytes_eq-Decides (number_name n) (number_name n)).1 refl

-- what stands under a smaller number isn't found under these names
others_skip :
    (n m : ℕ) (text : List ℕ) (given : List (List ℕ × List ℕ)) (texts : List (List ℕ)) → n < m → m + length texts < 2 ^ 64 →
    map (bytes_of ((number_name n, text) ∷ given)) (names_from m texts) ≡ map (bytes_of given) (names_from m texts)
others_skip n m text given [] lt most = refl
others_skip n m text given (first ∷ texts) lt most =
    let here : bytes_of ((number_name n, text) ∷ given) (number_name m) ≡ bytes_of given (number_name m) = rw (other_name n m lt (omega (arith, most))) refl in
    let rest : map (bytes_of ((number_name n, text) ∷ given)) (names_from (m + 1) texts) ≡ map (bytes_of given) (names_from (m + 1) texts) =
    others_skip n (m + 1) text given texts (omega (arith, lt)) (omega (arith, most)) in
    ap (λ (x : Option (List ℕ)). x ∷ map (bytes_of ((number_name n, text) ∷ given)) (names_from (m + 1) texts)) here ∙ ap (λ (xs : List (Option (List ℕ))). bytes_of given (number_name m) ∷ xs) rest

-- under its name each text is found
pub held_are : (n : ℕ) (texts : List (List ℕ)) → n + length texts < 2 ^ 64 → map (bytes_of (numbered_texts n texts)) (names_from n texts) ≡ map Some texts
held_are n [] most = refl
held_are n (text ∷ texts) most =
    let given = numbered_texts (n + 1) texts in
    let here : bytes_of ((number_name n, text) ∷ given) (number_name n) ≡ Some text = rw (own_name n) refl in
    let rest : map (bytes_of ((number_name n, text) ∷ given)) (names_from (n + 1) texts) ≡ map Some texts =
    others_skip n (n + 1) text given texts (omega arith) (omega (arith, most)) ∙ held_are (n + 1) texts (omega (arith, most)) in
    ap (λ (x : Option (List ℕ)). x ∷ map (bytes_of ((number_name n, text) ∷ given)) (names_from (n + 1) texts)) here ∙ ap (λ (xs : List (Option (List ℕ))). Some text ∷ xs) rest

-- one text more under its number
pub one_more_given :
    (given now whole : List (List ℕ × List ℕ)) (n : ℕ) (left rest : List (List ℕ)) (text : List ℕ) → left ≡ text ∷ rest → given ++ numbered_texts n left ≡ whole → now ≡ given ++ (number_name n, text) ∷ [] →
    now ++ numbered_texts (n + 1) rest ≡ whole
one_more_given given now whole n left rest text is so_far added =
    ap (λ (xs : List (List ℕ × List ℕ)). xs ++ numbered_texts (n + 1) rest) added ∙ append_assoc given ((number_name n, text) ∷ []) (numbered_texts (n + 1) rest) ∙
    ap (λ (xs : List (List ℕ)). given ++ numbered_texts n xs) (sym is) ∙ so_far

pub all_given : (given whole : List (List ℕ × List ℕ)) (n : ℕ) (left : List (List ℕ)) → left ≡ [] → given ++ numbered_texts n left ≡ whole → given ≡ whole
all_given given whole n left none so_far = sym (append-nil given) ∙ ap (λ (xs : List (List ℕ)). given ++ numbered_texts n xs) (sym none) ∙ so_far

-- one word more
pub one_more_word :
    {A B : Type 0} (f : A → List ℕ) (g : B → List ℕ) (first : List ℕ) (words now : List A) (word : A) (given : List B) (i : ℕ) (here : B) → i < length given → here ≡ get_or given i here →
    map f words ≡ first ∷ map g (take i given) → now ≡ words ++ word ∷ [] → f word ≡ g here → map f now ≡ first ∷ map g (take (i + 1) given)
one_more_word f g first words now word given i here lt at so_far added is =
    let more : take (i + 1) given ≡ take i given ++ here ∷ [] = take_more given i here lt ∙ ap (λ (x : _). take i given ++ x ∷ []) (sym at) in
    ap (map f) added ∙ map-append f words (word ∷ []) ∙ ap (λ (x : List ℕ). map f words ++ x ∷ []) is ∙ ap (λ (xs : List (List ℕ)). xs ++ g here ∷ []) so_far ∙
    ap (λ (xs : List (List ℕ)). first ∷ xs) (sym (map-append g (take i given) (here ∷ []))) ∙ ap (λ (xs : List _). first ∷ map g xs) (sym more)

-- the text of a pair
pub text_here : (given : List (List ℕ × List ℕ)) (k : ℕ) (pair : List ℕ × List ℕ) → Some pair ≡ slice_get given k → pair.1 ≡ text_if (slice_get (map (λ pair. pair.1) given) k)
text_here given k pair e = ap text_if (ap (option_map (λ (p : List ℕ × List ℕ). p.1)) e ∙ sym (slice_get-map (λ (p : List ℕ × List ℕ). p.1) given k))

pub no_text_here : (given : List (List ℕ × List ℕ)) (k : ℕ) → None ≡ slice_get given k → [] ≡ text_if (slice_get (map (λ pair. pair.1) given) k)
no_text_here given k e = ap text_if (ap (option_map (λ (p : List ℕ × List ℕ). p.1)) e ∙ sym (slice_get-map (λ (p : List ℕ × List ℕ). p.1) given k))

-- numbered texts are numbered texts again
pub numbered_again : (given : List (List ℕ × List ℕ)) (texts : List (List ℕ)) → given ≡ numbered_texts 1 texts → length texts < 2 ^ 32 → length (concat texts) ≤ limit → AreNumbered given (map (λ pair. pair.1) given)
numbered_again given texts e few within =
    let same : map (λ pair. pair.1) given ≡ texts = ap (map (λ pair. pair.1)) e ∙ texts_are 1 texts in
    record {
      are = e ∙ ap (numbered_texts 1) (sym same);
      few = subst (λ (ts : List (List ℕ)). length ts < 2 ^ 32) (sym same) few;
      within = subst (λ (ts : List (List ℕ)). length (concat ts) ≤ limit) (sym same) within;
    }

pub texts_again : (given : List (List ℕ × List ℕ)) (texts : List (List ℕ)) → given ≡ numbered_texts 1 texts → map (λ pair. pair.1) given ≡ texts
texts_again given texts e = ap (map (λ pair. pair.1)) e ∙ texts_are 1 texts
