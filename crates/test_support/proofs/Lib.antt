mod CountDown
mod Inside
