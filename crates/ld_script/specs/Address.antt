-- Addresses of requests: URLs as the URL Standard reads them, on this machine alone.
use Rattle.std.specs.Prelude.{◌≡◌, ◌++◌, ◌∷◌, [], ℕ, List, Option, Some, None, Ok, bytes_eq, codes, decimal, option_map, unwrap_or, if◌then◌else◌}
use Rattle.ld_base.specs.declared.request.Loop.{Loop}
use Rattle.ld_base.specs.declared.request.Loop.TheVariants.{V4, V6}
use Rattle.ld_script.specs.declared.address.Address.{Address}
use Rattle.ld_script.specs.declared.address.AddressFault.{AddressFault}
use Rattle.ld_script.specs.declared.address.AddressFault.TheVariants.{NoUrl, NotLoopback, Memory}
use Rattle.url.specs.Host.{host_text}
use Rattle.url.specs.Parser.{parse_url}
use Rattle.url.specs.Parts.{Parts, nonempty_host}

-- the text of a URL's host, with brackets around an IPv6 address; none where it has no host
abbrev pub host_of : Parts → Option (List ℕ)
host_of url = option_map host_text (nonempty_host url)

-- the loopback address that a host of this text is; `localhost` is that of IPv4
abbrev pub loop_named : List ℕ → Option Loop
loop_named host =
    if bytes_eq host (codes "127.0.0.1") then Some V4
    else if bytes_eq host (codes "localhost") then Some V4
    else if bytes_eq host (codes "[::1]") then Some V6
    else None

-- a URL's host has this text, and is this loopback address
pub record IsAt (url : Parts) (host : List ℕ) (at : Loop) : Type 0 where
  pub host_is : host_of url ≡ Some host
  pub at_is : loop_named host ≡ Some at

-- a URL of the scheme `http`, without user and password, on this machine
pub record IsLocal (url : Parts) (host : List ℕ) (at : Loop) : Type 0 where
  pub scheme : url.scheme ≡ codes "http"
  pub no_user : url.username ≡ []
  pub no_password : url.password ≡ []
  pub is_at : IsAt url host at

-- the path, and the query where there is one, behind `?`
abbrev pub with_query : List ℕ → Option (List ℕ) → List ℕ
with_query path None = path
with_query path (Some query) = path ++ 63 ∷ query

abbrev pub target_of : Parts → List ℕ
target_of url = with_query url.path url.query

-- the host, and the port behind `:` where another than 80 is written
abbrev pub authority_of : List ℕ → Option ℕ → List ℕ
authority_of host None = host
authority_of host (Some port) = host ++ 58 ∷ decimal port

-- the address that a URL is
pub record IsAddressOf (url : Parts) (address : Address) : Type 0 where
  pub host : List ℕ
  pub is_local : IsLocal url host address.host
  pub port : address.port ≡ unwrap_or url.port 80
  pub target : address.target ≡ target_of url
  pub authority : address.authority ≡ authority_of host url.port

-- a text is the URL of an address
abbrev pub Addresses : List ℕ → Address → Type 0
Addresses text address = (url : Parts) × (parse_url None text ≡ Ok url) × IsAddressOf url address

-- a text is refused: it is no URL, or else none on this machine
abbrev pub RefusesAddress : List ℕ → AddressFault → Type 0
RefusesAddress text NoUrl = (url : Parts) → parse_url None text ≡ Ok url → ⊥
RefusesAddress text NotLoopback =
    (url : Parts) × (parse_url None text ≡ Ok url) × ((host : List ℕ) (at : Loop) → IsLocal url host at → ⊥)
RefusesAddress text Memory = ⊥
