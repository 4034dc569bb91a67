-- How much of a request a page reads (own).
use Rattle.std.specs.Prelude.{◌≡◌, ℕ}
use Rattle.http_server.specs.declared.state.Config.{Config}

-- the most bytes of a head; the cookies of all servers at the same address come with it
abbrev pub most_head_bytes : ℕ
most_head_bytes = 16384

-- the most bytes of a body: 190 lines that feed a whole card each, and more of shorter ones
abbrev pub most_body_bytes : ℕ
most_body_bytes = 16384

-- the most bytes of a body that is one line: a console line has at most 200, and the reply to a longer one says so
abbrev pub most_line_bytes : ℕ
most_line_bytes = 1024

-- the most bytes of extensions of chunks, and of trailers
abbrev pub most_other_bytes : ℕ
most_other_bytes = 64

-- the limits of a page's requests
pub record IsPageConfig (config : Config) : Type 0 where
  pub head : config.limits.max_head_len ≡ most_head_bytes
  pub body : config.max_body_len ≡ most_body_bytes
  pub extensions : config.limits.max_extensions_len ≡ most_other_bytes
  pub trailers : config.limits.max_trailers_len ≡ most_other_bytes
