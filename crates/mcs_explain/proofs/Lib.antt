mod Seekers
mod AnswerSeekers
mod Followers
mod Tellers
mod Numbers
mod Spans
mod Questions
mod Answered
