-- The report's fixed words, byte by byte.
use Rattle.std.specs.Prelude.{ℕ, cond, List, [], ◌∷◌, eqb}
use Rattle.words.specs.declared.Word.{Word}
use Rattle.words.specs.declared.Word.TheVariants as Wx

abbrev pub refused : List ℕ
refused = 114 ∷ 101 ∷ 102 ∷ 117 ∷ 115 ∷ 101 ∷ 100 ∷ []

abbrev pub nodes : List ℕ
nodes = 110 ∷ 111 ∷ 100 ∷ 101 ∷ 115 ∷ []

abbrev pub sets : List ℕ
sets = 115 ∷ 101 ∷ 116 ∷ 115 ∷ []

abbrev pub verdict : List ℕ
verdict = 118 ∷ 101 ∷ 114 ∷ 100 ∷ 105 ∷ 99 ∷ 116 ∷ []

abbrev pub minimal : List ℕ
minimal = 109 ∷ 105 ∷ 110 ∷ 105 ∷ 109 ∷ 97 ∷ 108 ∷ []

abbrev pub blocking : List ℕ
blocking = 98 ∷ 108 ∷ 111 ∷ 99 ∷ 107 ∷ 105 ∷ 110 ∷ 103 ∷ []

abbrev pub yes : List ℕ
yes = 121 ∷ 101 ∷ 115 ∷ []

abbrev pub no : List ℕ
no = 110 ∷ 111 ∷ []

-- `-`: where there is no answer
abbrev pub none : List ℕ
none = 45 ∷ []

-- `q`: a minimal quorum
abbrev pub q : List ℕ
q = 113 ∷ []

-- `b`: a minimal blocking set
abbrev pub b : List ℕ
b = 98 ∷ []

-- the text of a fixed word
abbrev pub word_text : Word → List ℕ
word_text Wx.Refused = refused
word_text Wx.Nodes = nodes
word_text Wx.Sets = sets
word_text Wx.Verdict = verdict
word_text Wx.Yes = yes
word_text Wx.No = no
word_text Wx.Hyphen = none
word_text Wx.Minimal = minimal
word_text Wx.Q = q
word_text Wx.Blocking = blocking
word_text Wx.B = b
word_text Wx.Blank = []

-- the text of a fixed word by its number; any other number has none
unfoldable pub numbered_text : ℕ → List ℕ
numbered_text x =
    cond (eqb x 0) refused
    (cond (eqb x 1) nodes
    (cond (eqb x 2) sets
    (cond (eqb x 3) verdict
    (cond (eqb x 4) yes
    (cond (eqb x 5) no
    (cond (eqb x 6) none
    (cond (eqb x 7) minimal
    (cond (eqb x 8) q
    (cond (eqb x 9) blocking
    (cond (eqb x 10) b []))))))))))
