-- Grey values and the threshold (document 01, "The block and its numbering").
use Rattle.std.specs.Prelude.{ℕ, ◌<◌, Bool, false, ◌||◌, List, [], ◌∷◌, leb, eqb, get_or}
use Rattle.laws.specs.Bits.{differ}
use Rattle.block.specs.declared.Cut.{Cut}

-- "Samples are 16-bit"
abbrev pub SixteenBit : List ℕ → Type 0
SixteenBit samples = (k : ℕ) → get_or samples k 0 < 65536

-- "A noise figure n, any u32, goes with the threshold" t: both as one value that travels whole
abbrev pub cut_of : ℕ → ℕ → Cut
cut_of t n = record { t = t; noise = n }

-- the detector's ceiling: what the detector saw there is not known, and it "is taken as a positive sample of that value"
abbrev pub ceiling : ℕ
ceiling = 65535

abbrev pub is_ceiling : ℕ → Bool
is_ceiling s = eqb s ceiling

-- some of these samples is at the ceiling
abbrev pub has_ceiling : List ℕ → Bool
has_ceiling [] = false
has_ceiling (s ∷ samples) = is_ceiling s || has_ceiling samples

-- "Threshold t: 1 to 65,534"
abbrev pub no_threshold : Cut → Bool
no_threshold cut = eqb cut.t 0 || eqb cut.t ceiling

-- "A sample is positive (metal) if it is at least t, else negative (hollow)"
abbrev pub positive : Cut → ℕ → Bool
positive cut s = leb cut.t s

-- two samples differ in sign
abbrev pub apart : Cut → ℕ → ℕ → Bool
apart cut p q = differ (positive cut p) (positive cut q)
