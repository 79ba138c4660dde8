mod Beginning
mod Checked
mod End
mod Leaving
mod Noted
mod OneToken
mod Settled
mod Whole
