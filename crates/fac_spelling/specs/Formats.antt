-- Formats: which values have a spelling, their bytes, and reading with the first fault.
use Rattle.std.specs.Prelude.{◌≡◌, ℕ, zero, suc, List, [], ◌∷◌, ◌++◌, length, Result, Ok, Err}

infixl 10 ◌>>=◌
-- What fails says how many bytes are left from the fault on, so a later part's fault is the whole's.
abbrev pub ◌>>=◌ : {A B : Type 0} → Result A ℕ → (A → Result B ℕ) → Result B ℕ
(Ok x) >>= f = f x
(Err left) >>= f = Err left

pub record Format (A : Type 0) : Type 1 where
  -- which values have a spelling
  pub Fits : A → Type 0
  -- its bytes
  pub spell : A → List ℕ
  -- the value at the front and the bytes after it, or how many bytes are left from the first on with which nothing goes on
  pub read : List ℕ → Result (A × List ℕ) ℕ

-- ---- what an exact reading is, by the spelling alone

-- some value's bytes begin so
pub record Begins {A : Type 0} (f : Format A) (front : List ℕ) : Type 0 where
  pub value : A
  pub fits : f.Fits value
  pub more : List ℕ
  pub is : f.spell value ≡ front ++ more

-- with the next byte no value's bytes go on
abbrev pub Ends : {A : Type 0} → Format A → List ℕ → List ℕ → Type 0
Ends f front [] = Unit {0}
Ends f front (b ∷ bs) = Begins f (front ++ b ∷ []) → ⊥

-- no value's bytes stand at the front, and this many bytes are left from the first on with which no value's bytes go on
pub record Refused {A : Type 0} (f : Format A) (bytes : List ℕ) (left : ℕ) : Type 0 where
  pub front : List ℕ
  pub rest : List ℕ
  pub parts : bytes ≡ front ++ rest
  pub size : length rest ≡ left
  pub begins : Begins f front
  pub ends : Ends f front rest

-- a value's bytes stand at the front, and these behind them
pub record Found {A : Type 0} (f : Format A) (bytes : List ℕ) (value : A) (rest : List ℕ) : Type 0 where
  pub fits : f.Fits value
  pub parts : bytes ≡ f.spell value ++ rest

-- what reading answers is so
abbrev pub Right : {A : Type 0} → Format A → List ℕ → Result (A × List ℕ) ℕ → Type 0
Right f bytes (Ok x) = Found f bytes x.0 x.1
Right f bytes (Err left) = Refused f bytes left

pub record Exact {A : Type 0} (f : Format A) : Type 0 where
  -- something has a spelling
  pub one : A
  pub one_fits : f.Fits one
  -- what is spelled is read, whatever follows
  pub again : (x : A) (rest : List ℕ) → f.Fits x → f.read (f.spell x ++ rest) ≡ Ok (x, rest)
  -- what is read is spelled so, and a fault is at the exact place
  pub right : (bytes : List ℕ) → Right f bytes (f.read bytes)

-- ---- formats that are made of others

-- one after the other; the second may depend on the first
abbrev pub follow : {A B : Type 0} → Format A → (A → Format B) → Format (A × B)
follow f g = record {
  Fits = λ x. f.Fits x.0 × (g x.0).Fits x.1;
  spell = λ x. f.spell x.0 ++ (g x.0).spell x.1;
  read = λ bytes. f.read bytes >>= λ p. (g p.0).read p.1 >>= λ q. Ok ((p.0, q.0), q.1);
}

-- the values seen in another way
abbrev pub seen : {A B : Type 0} → (B → A) → (A → B) → Format A → Format B
seen to from f = record {
  Fits = λ y. f.Fits (to y);
  spell = λ y. f.spell (to y);
  read = λ bytes. f.read bytes >>= λ p. Ok (from p.0, p.1);
}

-- one value, of no bytes
abbrev pub nothing : {A : Type 0} → A → Format A
nothing x = record { Fits = λ y. y ≡ x; spell = λ _. []; read = λ bytes. Ok (x, bytes) }

-- So many values. The format of each may depend on how many come after it, and on a state that those before it made.
abbrev pub AllFit : {A S : Type 0} → (ℕ → S → Format A) → (S → A → S) → ℕ → S → List A → Type 0
AllFit g next zero s [] = Unit {0}
AllFit g next zero s (x ∷ xs) = ⊥
AllFit g next (suc n) s [] = ⊥
AllFit g next (suc n) s (x ∷ xs) = (g n s).Fits x × AllFit g next n (next s x) xs

abbrev pub spell_all : {A S : Type 0} → (ℕ → S → Format A) → (S → A → S) → ℕ → S → List A → List ℕ
spell_all g next zero s xs = []
spell_all g next (suc n) s [] = []
spell_all g next (suc n) s (x ∷ xs) = (g n s).spell x ++ spell_all g next n (next s x) xs

unfoldable pub all_at : {A S : Type 0} → (ℕ → S → Format A) → (S → A → S) → ℕ → S → List ℕ → Result (List A × List ℕ) ℕ
all_at g next zero s bytes = Ok ([], bytes)
all_at g next (suc n) s bytes = (g n s).read bytes >>= λ p. all_at g next n (next s p.0) p.1 >>= λ q. Ok (p.0 ∷ q.0, q.1)

abbrev pub run : {A S : Type 0} → (ℕ → S → Format A) → (S → A → S) → ℕ → S → Format (List A)
run g next n s = record { Fits = AllFit g next n s; spell = spell_all g next n s; read = all_at g next n s }

-- so many values of one format
abbrev pub each : {A : Type 0} → ℕ → Format A → Format (List A)
each n f = run {S = ℕ} (λ _ _. f) (λ s _. s) n 0
