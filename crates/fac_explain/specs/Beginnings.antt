-- What is told of a file that begins as no source should.
use Rattle.std.specs.Prelude.{ℕ, List, [], ◌∷◌, take, Bool, ◌||◌, codes, if◌then◌else◌}
use Rattle.std.specs.Str.{bytes_eq}

-- the bytes with which an image begins
abbrev pub is_like_image : List ℕ → Bool
is_like_image text = bytes_eq (take 4 text) (codes "FCI1")

-- a byte order mark of UTF-8
abbrev pub has_mark : List ℕ → Bool
has_mark text = bytes_eq (take 3 text) (239 ∷ 187 ∷ 191 ∷ [])

-- one of UTF-16
abbrev pub is_like_utf16 : List ℕ → Bool
is_like_utf16 text = bytes_eq (take 2 text) (255 ∷ 254 ∷ []) || bytes_eq (take 2 text) (254 ∷ 255 ∷ [])

abbrev pub beginning : List ℕ → List ℕ
beginning text =
    (if is_like_image text then codes "\nThe file begins as an image does. An image isn't a source: factorc exec runs it."
    else if has_mark text then codes "\nThe file begins with a byte order mark. Save it as UTF-8 without one."
    else if is_like_utf16 text then codes "\nThe file begins with the byte order mark of UTF-16. Save it as UTF-8 without one."
    else [])
