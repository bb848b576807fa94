-- Every definition that a list of calls computes with, once: whoever unfolds `computed` unfolds them all.
use lib.Ieee as Ieee
use Rattle.rm0440.specs.Registers.{mask, bits}
use Rattle.rm0440.specs.Output as Out
use Rattle.real.specs.Real.{positive}
use Rattle.pins.specs.Pins.{sensed_from, resolved}
use Rattle.clk.specs.Clk.{timer_div}
use Rattle.nvic.specs.Nvic.{line_at, on_line}
use Rattle.periph.specs.Lane.{lane_read, merged, lane_write}
use Rattle.sig.specs.Signal.{is_uart}
use Rattle.gpio.specs.Gpio as G
use Rattle.book.specs.Book.{entry_of, entries_of}
use Rattle.tim.specs.Change as C
use Rattle.tim.specs.Count.{up_from, down_from, cnt_at, synced}
use Rattle.tim.specs.Next.{compares, consider, next_steps, next_event}
use Rattle.regs.specs.Regs as R
use Rattle.machine.specs.Board.{idle_levels, fresh_board}
use Rattle.machine.specs.Sys as Sys
use Rattle.machine.specs.Deliver.{line_settled, rebooked, turn, after_delivery}
use Rattle.machine.specs.Deliver as D
use Rattle.machine.specs.Step.{fresh, insts_good, entries_below, within_limits, written, followed, step, run, board_after}
use Rattle.book.specs.Level.{level_at, highs}
use Rattle.accuracy.specs.Claim.{steady_call, steady, joined}

unfoldable pub computed : Type 0
unfolding step within_limits insts_good fresh entries_below positive fresh_board Ieee.of_bits Ieee.of_int Ieee.lt Ieee.le Ieee.mul idle_levels is_uart mask bits Out.ocref Out.at_match sensed_from resolved timer_div line_at on_line lane_read lane_write merged G.side_of G.updated G.refreshed entry_of entries_of C.behind C.recomputed C.recomputed_after_update C.cc_flag C.reloaded C.restarted C.ended C.updated C.matched C.compared C.output C.started C.stopped C.retimed C.reset_state up_from down_from cnt_at synced compares consider next_steps next_event R.turned R.cr1_written R.cnt_written R.arr_written R.ccr_written R.ccmr_written R.ccer_written R.channel_written R.reg_written R.channel_read R.reg_read R.astray line_settled rebooked turn D.handled after_delivery written followed run board_after Sys.update_pin Sys.refresh_pin Sys.select_af Sys.sig_out Sys.drive_channel Sys.drive_outputs Sys.set_pin joined steady steady_call level_at highs
computed = Unit {0}
