-- What a delivery over the lent state and the lent book leaves.
use Rattle.std.specs.Prelude.{◌≡◌, cond, ℕ, ◌<◌, ltb, leb, Option, Some, None}
use Rattle.tim.specs.declared.Next.{Next}
use Rattle.tim.specs.declared.Next.TheVariants.{Update, Compare}
use Rattle.book.specs.Book.{Book, puts, Holds, Lent}
use Rattle.machine.specs.Board.{Board, with_pads}
use Rattle.machine.specs.Deliver.{Run, most_events, after_delivery}
use Rattle.delivery.specs.declared.Stop.{Stop}
use Rattle.delivery.specs.declared.Stop.TheVariants.{Done, Backlog}
use Rattle.delivery.specs.declared.Ran.{Ran}
use Rattle.delivery.specs.declared.Delivered.{Delivered}

-- a compare is one of four channels'
abbrev pub OfFour : Next → Type 0
OfFour Update = Unit {0}
OfFour (Compare ch) = ch < 4

-- the number in a call's answer
abbrev pub number_of : Stop → ℕ
number_of Done = 0
number_of Backlog = 8

-- "stops when nothing is due (0), or with more due after 100,001 events or with under 4 places left (8)"; None goes on
unfoldable pub verdict_of : ℕ → ℕ → ℕ → ℕ → Option Stop
verdict_of at cycle events left = cond (leb at cycle) (cond (leb most_events events) (Some Backlog) (cond (ltb left 4) (Some Backlog) None)) (Some Done)

-- a run of events, its timer not stored yet
pub record Ends (o : Run) (b b₁ : Board) (k k₁ : Book) (r : Ran) : Type 0 where
  pub timer : r.timer ≡ o.timer
  pub number : number_of r.delivered.stop ≡ o.number
  pub events : r.delivered.events ≡ o.events
  pub board : b₁ ≡ with_pads b o.pads
  pub entries : k₁ ≡ puts k o.entries

-- a delivery: its answer, the board settled, and the book from place 0
pub record Delivers (d : Run) (b : Board) (i cycle : ℕ) (b₁ : Board) (r : Delivered) (n : ℕ) (u u₁ : Lent) : Type 0 where
  pub number : number_of r.stop ≡ d.number
  pub events : r.events ≡ d.events
  pub board : b₁ ≡ after_delivery b i cycle d.timer d.pads
  pub entries : Holds d.entries u u₁ n
