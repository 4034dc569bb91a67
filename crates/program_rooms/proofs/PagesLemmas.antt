-- The pages of one seat more.
use Rattle.std.proofs.Common.{◌≡◌, ℕ, ◌+◌, List, [], ◌∷◌, ◌++◌, length, Option, arith, subst}
use Rattle.serving_http.specs.declared.origins.Origin.{Origin}
use Rattle.serving_room.specs.declared.paging.PagePort.{PagePort}
use Rattle.program_rooms.specs.Pages.{ArePages, IsPagePort}

pub one_page_more : (first : ℕ) (origin : Option Origin) (places : ℕ) (pages : List PagePort) (page : PagePort)
    → ArePages first origin places pages → IsPagePort first origin (places + length pages) page
    → ArePages first origin places (pages ++ page ∷ [])
one_page_more first origin places [] page all last =
    (subst (λ n. IsPagePort first origin n page) (omega arith) last, tt)
one_page_more first origin places (next ∷ pages) page all last = (
  all.0,
  one_page_more first origin (places + 1) pages page all.1
      (subst (λ n. IsPagePort first origin n page) (omega arith) last),
)
