-- Names of scripts and scenarios.
use Rattle.std.specs.Prelude.{◌≡◌, ◌≢◌, ◌<◌, ◌≤◌, ◌⊎◌, ◌++◌, ℕ, List, Some, All, codes, false, length, slice_get}
use Rattle.ld_json.specs.Known.{is_one_of, pieces}
use Rattle.std.specs.Char.{IsAsciiAlphanumeric}

-- the greatest length of a name
abbrev pub most_letters : ℕ
most_letters = 64

-- the bytes of `_` and `-`
abbrev pub low_line : ℕ
low_line = 95

abbrev pub hyphen : ℕ
hyphen = 45

-- a byte of a name is an ASCII letter or digit, `_` or `-`
abbrev pub IsNameByte : ℕ → Type 0
IsNameByte b = IsAsciiAlphanumeric b ⊎ ((b ≡ low_line) ⊎ (b ≡ hyphen))

-- a name has some such bytes, and not too many
pub record IsName (name : List ℕ) : Type 0 where
  pub some : 0 < length name
  pub few : length name ≤ most_letters
  pub bytes : All IsNameByte name

-- the metrics that every run has
abbrev pub metric_names : List (List ℕ)
metric_names =
    pieces (codes "http_reqs http_req_duration http_req_failed checks iterations iteration_duration")
    ++ pieces (codes "dropped_iterations late_iterations data_sent data_received vus vus_max")

-- a counter's name is a name without hyphens, and none of a metric
pub record IsCounterName (name : List ℕ) : Type 0 where
  pub is_name : IsName name
  pub plain : All (λ b. b ≢ hyphen) name
  pub free : is_one_of metric_names name ≡ false

-- this name is none of these
abbrev pub Lacks : List (List ℕ) → List ℕ → Type 0
Lacks names name = (k : ℕ) → slice_get names k ≡ Some name → ⊥
